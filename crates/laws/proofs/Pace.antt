-- The pace of words with ESS 1 (W6), for demand 3. With the bytes that wait counted beside the data of the partial word, less two (`pace`), a working edge adds 1 at most, and a word comes
-- where 2 would be reached and leaves 0 (`byte_paced`). And the data that a byte releases fill one word at most (`one_word`), so that `either_word` drops none.
-- The idea: a byte that is not the last of a code either waits or is released, so that data and waiting bytes together grow by 1; a word takes four. Assumes nothing.
use mathlib.Core.Bool.{Bool, true, false, cond, ◌&&◌, true≢false}
use mathlib.Core.List.{List, [], ◌∷◌}
use Rattle.std.specs.Prelude.{Option, None, Some}
use mathlib.Core.Path.{◌≡◌, refl, ◌∙◌}
use Prim.Native.Nat.{ℕ, ◌+◌, ◌-◌, ◌*◌, ◌≤◌, ◌<◌}
use native.Mathlib.Omega.{arith}
use lib.Dec.{eqb, ltb}
use lib.ListN.{length}
use borrow.Author.Tests.{ltb-false}
use Rattle.bits.proofs.Booleans.{by_cond, either}
use Rattle.registers.specs.Control.{capture, snapshot, edm}
use Rattle.packing.specs.Packing.{per_word}
use Rattle.codes.specs.declared.Waiting.{Waiting}
use Rattle.codes.specs.declared.Waiting.TheVariants.{Zero, One, Two, Three}
use Rattle.codes.specs.declared.Meaning.{Meaning}
use Rattle.codes.specs.Bytes.{waiting_count, is_code, waiting_after, released}
use Rattle.codes.specs.Meaning.{meaning}
use Rattle.codes.proofs.Bytes.{one_byte_count, few_released}
use Rattle.rules.specs.declared.Syncs.{Syncs}
use Rattle.rules.specs.declared.Scan.{Scan}
use Rattle.rules.specs.declared.Frame.{Frame}
use Rattle.rules.specs.declared.Frame.TheVariants.{Closed, Open}
use Rattle.rules.specs.declared.Capture.{Capture}
use Rattle.rules.specs.State.{not_blanking, raise, clear_capture, close_frame, with_cr, with_ris, with_registers, with_syncs, with_frame, with_rate, with_partial, with_waiting}
use Rattle.rules.specs.Capture.{Captured, no_word, sync_flags, end_of, frame_closes, captured, pack}
use Rattle.rules.specs.Codes.{coded_syncs, arrived, before, datum, each_datum, byte_in, taken_out, frame_opens, line_opens, closes, errs, at_code, at_byte}
use Rattle.laws.specs.OneWord.{one_if, words_filled}
use Rattle.laws.proofs.Moved.{Paced}
use Rattle.laws.proofs.Coded.{Grown, each_joined}
use Rattle.laws.proofs.FrameEdges.{flags_flagged}
use Rattle.laws.proofs.ByCode.{by_code}

few_wait : (k : Waiting) → is_code k ≡ false → waiting_count k ≤ 2
few_wait Zero e = omega arith
few_wait One e = omega arith
few_wait Two e = omega arith
few_wait Three e = absurd (true≢false e)

-- A code answers no word, packs none, and leaves the waiting bytes.
record Quiet (s : Capture) (c : Captured) : Type 0 where
  word : c.word ≡ None
  waiting : c.state.waiting ≡ s.waiting
  fewer : c.state.partial.count ≤ s.partial.count

closed_quiet : (f : Frame) (s : Capture) → Quiet s (no_word (end_of f s))
unfolding no_word end_of close_frame with_partial with_frame clear_capture with_registers with_cr
closed_quiet Closed s = record { word = refl; waiting = refl; fewer = omega arith }
closed_quiet (Open taken f) s =
    either (λ (t : Capture). Quiet s (no_word (close_frame t))) (taken && snapshot s.registers.cr)
    (record { word = refl; waiting = refl; fewer = omega arith })
    (record { word = refl; waiting = refl; fewer = omega arith })

closes_quiet : (s : Capture) (now : Syncs) → Quiet s (closes s now)
unfolding closes frame_closes with_syncs with_registers with_ris no_word
closes_quiet s now =
    let u = with_syncs (coded_syncs s) s in
    let flagged = flags_flagged (capture s.registers.cr) u now in
    let t = cond (capture s.registers.cr) (sync_flags u now) u in
    let q : Quiet t (no_word (cond now.vsync (end_of t.frame t) t)) =
    either (λ (v : Capture). Quiet t (no_word v)) now.vsync (closed_quiet t.frame t) (record { word = refl; waiting = refl; fewer = omega arith }) in
    let same_waiting : t.waiting ≡ s.waiting = rw flagged.is in
    let same_count : t.partial.count ≡ s.partial.count = rw flagged.is in
    record { word = refl; waiting = q.waiting ∙ same_waiting; fewer = omega (arith, q.fewer, same_count) }

errs_quiet : (s : Capture) → Quiet s (errs s)
unfolding errs raise close_frame with_frame with_partial with_syncs with_registers with_ris
errs_quiet s = record { word = refl; waiting = refl; fewer = omega arith }

none_quiet : (s : Capture) → Quiet s (no_word s)
unfolding no_word
none_quiet s = record { word = refl; waiting = refl; fewer = omega arith }

opens_quiet : (s : Capture) → Quiet s (no_word (frame_opens s))
unfolding frame_opens with_syncs with_rate with_frame no_word
opens_quiet s =
    either (λ (t : Capture). Quiet s (no_word (with_syncs not_blanking t))) (capture s.registers.cr)
    (record { word = refl; waiting = refl; fewer = omega arith })
    (record { word = refl; waiting = refl; fewer = omega arith })

at_code_quiet : (m : Meaning) (s : Capture) → Quiet s (at_code m s)
unfolding no_word line_opens with_syncs with_frame
at_code_quiet m s = let same : Quiet s (no_word s) = none_quiet s in by_code (Quiet s) s same (closes_quiet s) (errs_quiet s) (λ e. opens_quiet s) (λ taken f e. record { word = refl; waiting = refl; fewer = omega arith }) (λ e. record { word = refl; waiting = refl; fewer = omega arith }) m

pub at_code_word : (m : Meaning) (s : Capture) → (at_code m s).word ≡ None
at_code_word m s = (at_code_quiet m s).word

pub at_code_waits : (m : Meaning) (s : Capture) → (at_code m s).state.waiting ≡ s.waiting
at_code_waits m s = (at_code_quiet m s).waiting

taken_out_count : (f : Frame) (s : Capture) → (taken_out f s).partial.count ≡ s.partial.count
unfolding taken_out with_frame
taken_out_count Closed s = refl
taken_out_count (Open taken f) s = either (λ (t : Capture). t.partial.count ≡ s.partial.count) s.syncs.hsync refl refl

-- The pace.
unfoldable pub pace : Capture → ℕ
pace s = s.partial.count + waiting_count s.waiting - 2

code_paced : (m : Meaning) (s t : Capture) → t.waiting ≡ Zero → t.partial.count ≡ s.partial.count → Paced 2 (pace s) (pace (at_code m t).state) (at_code m t).word
unfolding pace
code_paced m s t none_waits same =
    let q = at_code_quiet m t in
    let empty : (at_code m t).state.waiting ≡ Zero = q.waiting ∙ none_waits in
    rw (q.word, empty) (omega (arith, q.fewer))

-- Data and waiting bytes by the numbers: many data are released, v bytes waited and v' do now.
released_paced : (many p p' v v' : ℕ) (o : Option ℕ) → many + v' ≡ v + 1 → v ≤ 2 → Grown 4 many p p' o → Paced 2 (p + v - 2) (p' + v' - 2) o
released_paced many p p' v v' None e few g = omega arith
released_paced many p p' v v' (Some w) e few (reached, left) = (omega arith, omega arith)

byte_in_paced : (f : Frame) (s : Capture) (x : ℕ) → eqb (edm s.registers.cr) 0 ≡ true → is_code s.waiting ≡ false
    → Paced 2 (pace s) (pace (byte_in f s x).state) (byte_in f s x).word
unfolding pace byte_in no_word with_waiting with_frame per_word
byte_in_paced Closed s x eight more = omega (arith, one_byte_count s.waiting x more)
byte_in_paced (Open taken f) s x eight more =
    let still = waiting_after s.waiting x in
    let t = with_waiting still (with_frame (Open taken (arrived f)) s) in
    let c = each_datum t taken (arrived f) (released s.waiting x) (waiting_count still) in
    let j = each_joined t taken (arrived f) (arrived f) (released s.waiting x) (waiting_count still) refl in
    let counted = one_byte_count s.waiting x more in
    either (λ (c : Captured). Paced 2 (pace s) (pace c.state) c.word) s.syncs.hsync
    (omega (arith, counted))
    (rw j.waiting (released_paced _ s.partial.count c.state.partial.count (waiting_count s.waiting) (waiting_count still) c.word counted (few_wait s.waiting more) (rw eight at j.grown)))

pub byte_paced : (s : Capture) (x : ℕ) → eqb (edm s.registers.cr) 0 ≡ true → Paced 2 (pace s) (pace (at_byte s x).state) (at_byte s x).word
unfolding at_byte with_waiting
byte_paced s x eight =
    let m = meaning s.registers.escr s.registers.esur x in
    by_cond (λ (c : Captured). Paced 2 (pace s) (pace c.state) c.word) (is_code s.waiting) _ _
    (λ last. code_paced m s (with_waiting Zero (taken_out s.frame s)) refl (taken_out_count s.frame s))
    (λ more. byte_in_paced s.frame s x eight more)

-- A word takes four data.
datum_fills : (s : Capture) (taken : Bool) (f : Scan) (x : ℕ) → eqb (edm s.registers.cr) 0 ≡ true
    → let c = datum s taken f x in (c.state.registers ≡ s.registers) × (4 * one_if c.word + c.state.partial.count ≤ s.partial.count + 1)
unfolding datum pack no_word with_partial per_word
datum_fills s taken f x eight =
    let P : Captured → Type 0 = λ c. (c.state.registers ≡ s.registers) × (4 * one_if c.word + c.state.partial.count ≤ s.partial.count + 1) in
    either P (captured s taken f)
    (rw eight
    (by_cond P (ltb (s.partial.count + 1) 4) _ _ (λ short. (refl, omega arith)) (λ full. (refl, omega (arith, ltb-false (s.partial.count + 1) 4 full)))))
    (refl, omega arith)

four_each : (s : Capture) (taken : Bool) (f : Scan) (xs : List ℕ) (still : ℕ) → eqb (edm s.registers.cr) 0 ≡ true → 4 * words_filled s taken f xs still ≤ s.partial.count + length xs
unfolding words_filled
four_each s taken f [] still eight = omega arith
four_each s taken f (x ∷ xs) still eight =
    let (same, takes) = datum_fills s taken (before (length xs + still) f) x eight in
    omega (arith, takes, four_each (datum s taken (before (length xs + still) f) x).state taken f xs still (rw same eight))

pub one_word : (s : Capture) (taken : Bool) (f : Scan) (k : Waiting) (x still : ℕ) → eqb (edm s.registers.cr) 0 ≡ true → s.partial.count < per_word (edm s.registers.cr)
    → words_filled s taken f (released k x) still ≤ 1
unfolding per_word
one_word s taken f k x still eight short =
    let most : s.partial.count < 4 = rw eight at short in
    omega (arith, most, four_each s taken f (released k x) still eight, few_released k x)
