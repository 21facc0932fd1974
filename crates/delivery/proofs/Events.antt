-- With two buffers (W2), what is kept after a sample at which no word is lost and ERR does not rise: a landing or none, a word or none, the end of a frame or not (`sample_tagged`). Assumes nothing.
use mathlib.Core.Bool.{Bool, true, false, cond}
use mathlib.Core.List.{List, [], ◌∷◌, ◌++◌, append-nil}
use Rattle.std.specs.Prelude.{Option, None, Some}
use mathlib.Core.Path.{◌≡◌, refl}
use Prim.Native.Nat.{ℕ}
use Rattle.buffers.specs.Story.{Event, ended}
use Rattle.buffers.specs.Kept.{Kept, keep, keeps}
use Rattle.rules.specs.declared.Capture.{Capture}
use Rattle.rules.specs.Sample.{capture_sample}
use Rattle.board_rules.specs.TwoBuffers.{landing_event, word_event, has_closed, frame_event, sample_events}
use Rattle.delivery.specs.Noted.{Turn, word_turn, turn_after, next_turn, Noted, note, words}
use Rattle.delivery.proofs.Following.{answered, leaving, byte_after}
use Rattle.delivery.proofs.Chain.{left, passed}
use Rattle.delivery.proofs.Tagged.{Tagged, lands, holds, ends}

keeps_append : (k : Kept) (es fs : List Event) → keeps k (es ++ fs) ≡ keeps (keeps k es) fs
unfolding keeps
keeps_append k [] fs = refl
keeps_append k (e ∷ es) fs = keeps_append (keep k e) es fs

landing_tagged : (granted : Bool) (p : ℕ) (k : Kept) (l t : Turn) (ns : List Noted) → Tagged k l ns t
    → Tagged (keeps k (landing_event (byte_after p (leaving granted (words ns))))) (passed granted l ns) (left granted ns) t
unfolding keeps
landing_tagged granted p k l t [] g = g
landing_tagged true p k l t (n ∷ ns) g = lands k l n ns t g
landing_tagged false p k l t (n ∷ ns) g = g

word_tagged : (o : Option ℕ) (i : ℕ) (k : Kept) (l t : Turn) (ns : List Noted) → Tagged k l ns t
    → Tagged (keeps k (word_event (answered o))) l (ns ++ note i (word_turn true t) o) (turn_after true t o)
unfolding keeps note turn_after
word_tagged None i k l t ns g = rw append-nil g
word_tagged (Some v) i k l t ns g = holds k l ns (record { word = v; sample = i; turn = word_turn true t }) t refl g

end_tagged : (b : Bool) (k : Kept) (l t : Turn) (ns : List Noted) → Tagged k l ns t
    → Tagged (keeps k (cond b (ended ∷ []) [])) l ns (cond b (record { buffer = t.buffer; number = 0 }) t)
unfolding keeps
end_tagged true k l t ns g = ends k l ns t g
end_tagged false k l t ns g = g

pub sample_tagged : (s : Capture) (w p i : ℕ) (granted : Bool) (k : Kept) (l t : Turn) (ns : List Noted) → (capture_sample s w).error ≡ false → Tagged k l ns t
    → let c = capture_sample s w in
    Tagged (keeps k (sample_events s w (byte_after p (leaving granted (words ns))) (answered c.word))) (passed granted l ns)
    (left granted ns ++ note i (word_turn true t) c.word) (next_turn true t s c)
unfolding sample_events frame_event next_turn
sample_tagged s w p i granted k l t ns quiet g =
    let c = capture_sample s w in
    let es = landing_event (byte_after p (leaving granted (words ns))) in
    let fs = word_event (answered c.word) in
    let k₁ = keeps k es in
    let one = landing_tagged granted p k l t ns g in
    let two = word_tagged c.word i k₁ (passed granted l ns) t (left granted ns) one in
    rw (quiet, keeps_append k es, keeps_append k₁ fs) (end_tagged (has_closed s c) (keeps k₁ fs) (passed granted l ns) (turn_after true t c.word) _ two)
