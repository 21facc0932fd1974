-- `Parts::take_some` meets its contract.
use Rattle.std.proofs.Common.{List, ℕ, [], refl, sym, ap, ◌∙◌, take, get_or, length-take-le}
use Rattle.file_rules.specs.Parts.{Taken, take_byte, take_bytes}
use Rattle.parts.proofs.Stretch.{one_byte, nothing_yet}
use Rattle.parts.proofs.Parts.take_some.Goals as goal

pub returns-then-counted-ne0-clause-memory_after : goal.returns-then-counted-ne0-clause-memory_after
returns-then-counted-ne0-clause-memory_after c =
    let a = c.args in
    let counted = c.count_bytes-counted in
    let p : _ = c.take_samples-ran.ensures.memory_after ∙ nothing_yet _ _ _ _ c.if-ran-ne0.false in
    let bs : List ℕ = take counted.result a.bytes.now in
    counted.ensures.by_index a.start c.take_samples-ran.new.memory bs (length-take-le counted.result a.bytes.now counted.ensures.bytes_le_n) ∙ ap (λ (t : Taken). take_bytes a.start t bs) p

pub returns-clause-memory_after : goal.returns-clause-memory_after
returns-clause-memory_after c =
    let a = c.args in
    let p : _ = c.take_samples-ran.ensures.memory_after ∙ nothing_yet _ _ _ _ c.if-ran-ne0.false in
    let q : _ = c.count_bytes-counted.ensures.by_index a.start c.take_samples-ran.new.memory [] (sym c.if-counted-ne0.false) ∙ nothing_yet _ _ [] 0 refl in
    c.take_byte.ensures ∙ ap (λ (t : Taken). take_byte a.start t (get_or a.bytes.now 0 0)) (q ∙ p) ∙ one_byte _ _ _ c.requires
