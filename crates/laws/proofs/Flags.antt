-- ERR (W6): a sample raises it exactly where the capture rules say so, and clears it never (`error_by_rules`). On a device of any depth, over every list of calls at whose samples they
-- never say so, bit 2 of RIS is 0 (`error_never_rises`); so too where ESS is 0 at the samples (`no_error_without_codes`).
-- The idea: of the register writes ICR alone changes RIS, and it only clears. Assumes nothing.
use mathlib.Core.Bool.{Bool, true, false, cond, not, ◌&&◌, ◌||◌}
use mathlib.Core.List.{List, [], ◌∷◌, ◌++◌}
use mathlib.Core.Path.{◌≡◌, refl, sym, ◌∙◌}
use Prim.Native.Nat.{ℕ, zero, suc, ◌-◌, ◌/◌, ◌%◌, ◌^◌}
use native.Mathlib.Omega.{arith}
use lib.Bits.{bit_and, and_step, and_le_l}
use lib.Dec.{eqb, ltb}
use lib.ListN.{drop}
use borrow.Author.Tests.{eqb-false, ne_eqb, not-true}
use Rattle.bits.specs.Bits.{bit}
use Rattle.bits.proofs.Booleans.{and_true, or_unit, or_true, either}
use Rattle.registers.specs.Control.{embedded, snapshot, enable}
use Rattle.registers.specs.Map.{register_at}
use Rattle.registers.specs.declared.Register.{Register}
use Rattle.registers.specs.declared.Register.TheVariants.{Control, Status, RawStatus, InterruptEnable, MaskedStatus, InterruptClear, EmbeddedCode, EmbeddedUnmask, WindowStart, WindowSize}
use Rattle.std.specs.Prelude.{Option, Some, None}
use Rattle.refusals.specs.Refusals.{◌⇒◌, first}
use Rattle.rules.specs.declared.Capture.{Capture}
use Rattle.rules.specs.declared.Device.{Device}
use Rattle.rules.specs.State.{fresh_of, fresh_capture, with_cr, with_ris, with_ier, with_cwstrt, with_cwsize, with_registers, with_pins, with_syncs, with_frame, with_rate, with_partial, with_waiting, with_escr, with_esur, raise, clear_capture, close_frame}
use Rattle.rules.specs.Capture.{remember_pins}
use Rattle.rules.specs.Sample.{capture_sample}
use Rattle.rules.specs.RegisterCalls.{enabling, disabling, switch_enable, capture_rises, switch_capture, write_control, clear_flags, write_register, write_at, write_refusal, write, rearmed, rearm}
use Rattle.rules.specs.Run.{lose_frame, after_grant, step, steps, run_refusal, run, sample}
use Rattle.rules.specs.WellFormed.{malformed}
use Rattle.laws.specs.Histories.{Call, a_write, a_rearming, a_placing, a_run, a_sample, after, after_all, reached, Event, sampled, disabled, samplings, accepted_samplings, samplings_of, events, events_of_all, history, no_errors, without_codes}
use Rattle.bits.proofs.Raised.{above, raised_other}
use Rattle.laws.proofs.Errors.{risen_in_error, no_error_by_pins}
use Rattle.laws.proofs.Kept.{flagged_kept}
use Rattle.laws.proofs.Sampled.{sample_left}
use Rattle.laws.proofs.KeepsSample.{by_word}

-- A register write keeps of RIS what clearing flags keeps.
module _ (P : ℕ → Type 0) (clearing : (x v : ℕ) → P x → P (x - bit_and x v)) (v : ℕ) (s : Capture) (h : P s.registers.ris) where
  control_flags : P (write_control v s).registers.ris
  unfolding write_control with_registers with_cr switch_capture switch_enable enabling disabling close_frame with_syncs with_frame with_rate with_partial with_waiting
  control_flags =
      let Q : Capture → Type 0 = λ t. P t.registers.ris in
      let same = either Q (enable s.registers.cr) (either Q (enable v) h h) (either Q (enable v) h h) in
      either Q (capture_rises v s) same same

  pub write_flags : (r : Register) → P (write_register r v s).registers.ris
  unfolding write_register with_registers with_ier clear_flags with_ris with_cwstrt with_cwsize with_escr with_esur
  write_flags Control = control_flags
  write_flags Status = h
  write_flags RawStatus = h
  write_flags InterruptEnable = h
  write_flags MaskedStatus = h
  write_flags InterruptClear = clearing s.registers.ris v h
  write_flags EmbeddedCode = h
  write_flags EmbeddedUnmask = h
  write_flags WindowStart = h
  write_flags WindowSize = h

-- A flag that is 0 is not raised by clearing.
half_cleared : (x v : ℕ) → (x - bit_and x v) / 2 ≡ x / 2 - bit_and (x / 2) (v / 2)
half_cleared x v = rw (and_step x v) (omega (arith, and_le_l (x / 2) (v / 2)))

clears : (k x v : ℕ) → ¬ (x / 2 ^ k % 2 ≡ 1) → ¬ ((x - bit_and x v) / 2 ^ k % 2 ≡ 1)
clears zero x v off = rw (and_step x v) (λ on. omega (arith, and_le_l (x / 2) (v / 2)))
clears (suc k) x v off = rw (above k (x - bit_and x v), half_cleared x v) (clears k (x / 2) (v / 2) (rw (above k x) at off))

-- ERR is 0.
abbrev NoError : Device → Type 0
NoError d = bit 2 d.core.capture.registers.ris ≡ false

write_at_error : (d : Device) (r : Option Register) (v : ℕ) → NoError d → NoError (write_at d r v)
unfolding write_at
write_at_error d None v low = low
write_at_error d (Some r) v low =
    write_flags (λ x. bit 2 x ≡ false) (λ x y h. ne_eqb _ 1 (clears 2 x y (eqb-false _ 1 h))) v d.core.capture low r

-- A sample raises ERR where the rules say so, and clears it never.
lose_frame_error : (s : Capture) → bit 2 (lose_frame s).registers.ris ≡ bit 2 s.registers.ris
unfolding lose_frame close_frame with_frame with_partial clear_capture raise with_registers with_cr with_ris
lose_frame_error s =
    let same = raised_other 2 1 s.registers.ris (omega arith) in
    either (λ (t : Capture). bit 2 t.registers.ris ≡ bit 2 s.registers.ris) (snapshot s.registers.cr) same same

sample_error : (s : Capture) (w : ℕ) → bit 2 (capture_sample s w).state.registers.ris ≡ bit 2 s.registers.ris || (capture_sample s w).error
unfolding remember_pins with_pins
sample_error s w = go (capture_sample s w).error (risen_in_error s w) (sample_left s w).error
  where
    go : (rises : Bool) → (rises ≡ true → bit 2 (capture_sample s w).state.registers.ris ≡ true)
        → (rises ≡ false → bit 2 (capture_sample s w).state.registers.ris ≡ bit 2 s.registers.ris)
        → bit 2 (capture_sample s w).state.registers.ris ≡ bit 2 s.registers.ris || rises
    go true up same = up refl ∙ sym (or_true (bit 2 s.registers.ris))
    go false up same = same refl ∙ sym (or_unit (bit 2 s.registers.ris))

pub error_by_rules : (d : Device) (b : List ℕ) (w : ℕ)
    → bit 2 (step d b w).device.core.capture.registers.ris ≡ bit 2 d.core.capture.registers.ris || (capture_sample d.core.capture w).error
unfolding step after_grant
error_by_rules d b w =
    let s = d.core.capture in
    let same = sample_error s w in
    let flagged = (flagged_kept (capture_sample s w)).error ∙ same in
    by_word (λ (e : Device). bit 2 e.core.capture.registers.ris ≡ bit 2 s.registers.ris || (capture_sample s w).error) _ _ _ flagged (λ e. flagged) (λ v. flagged) (λ v. lose_frame_error _ ∙ same)

-- Some samples, some calls: the events of two lists.
errors_append : (es fs : List Event) → no_errors (es ++ fs) ≡ no_errors es && no_errors fs
unfolding no_errors
errors_append [] fs = refl
errors_append (sampled found w landing packed ∷ es) fs = rw (errors_append es fs) (go (capture_sample found w).error (no_errors es))
  where
    go : (rises none : Bool) → not rises && (none && no_errors fs) ≡ (not rises && none) && no_errors fs
    go true none = refl
    go false none = refl
errors_append (disabled ∷ es) fs = errors_append es fs

steps_error : (d : Device) (b ws : List ℕ) → no_errors (samplings d b ws) ≡ true → NoError d → NoError (steps d b ws).device
unfolding steps samplings no_errors
steps_error d b [] none low = low
steps_error d b (w ∷ ws) none low =
    let (here, later) = and_true (not (capture_sample d.core.capture w).error) _ none in
    steps_error (step d b w).device (step d b w).buffer ws later (error_by_rules d b w ∙ rw (low, not-true (capture_sample d.core.capture w).error here))

-- Every call, and every list of calls.
samples_error : (accepted : Bool) (d : Device) (b ws : List ℕ) → no_errors (cond accepted (samplings d b ws) []) ≡ true → NoError d → NoError (cond accepted (steps d b ws).device d)
samples_error true d b ws none low = steps_error d b ws none low
samples_error false d b ws none low = low

call_error : (d : Device) (c : Call) → no_errors (events d c) ≡ true → NoError d → NoError (after d c)
unfolding after events samplings_of accepted_samplings samplings write rearm rearmed run sample steps
call_error d (a_write offset value fits) none low =
    either NoError (eqb (write_refusal d offset value) 0) (write_at_error d (register_at offset) value low) low
call_error d a_rearming none low = either NoError (eqb (first (malformed d ⇒ 1 ∷ [])) 0) low low
call_error d (a_placing k) none low = either NoError (ltb d.core.output.counts.landed k) low low
call_error d (a_run memory start samples) none low =
    samples_error (eqb (run_refusal d memory start samples) 0) d (drop start memory) samples (and_true _ _ (sym (errors_append _ _) ∙ none)).0 low
call_error d (a_sample memory start w) none low =
    samples_error (eqb (run_refusal d memory start (w ∷ [])) 0) d (drop start memory) (w ∷ []) (and_true _ _ (sym (errors_append _ _) ∙ none)).0 low

calls_error : (d : Device) (cs : List Call) → no_errors (events_of_all d cs) ≡ true → NoError d → NoError (after_all d cs)
unfolding after_all events_of_all
calls_error d [] none low = low
calls_error d (c ∷ cs) none low =
    let (here, later) = and_true (no_errors (events d c)) _ (sym (errors_append _ _) ∙ none) in
    calls_error (after d c) cs later (call_error d c here low)

-- ERR is 0 after every list of calls at whose samples it never rises.
pub error_never_rises : (depth : ℕ) (cs : List Call) → no_errors (history depth cs) ≡ true → bit 2 (reached depth cs).core.capture.registers.ris ≡ false
unfolding fresh_of fresh_capture
error_never_rises depth cs none = calls_error (fresh_of depth) cs none refl

-- And so it is where ESS is 0 at each of them.
plain_silent : (es : List Event) → without_codes es ≡ true → no_errors es ≡ true
unfolding without_codes no_errors
plain_silent [] plain = refl
plain_silent (sampled found w landing packed ∷ es) plain =
    let (here, later) = and_true (not (embedded found.registers.cr)) _ plain in
    rw (no_error_by_pins found w (not-true _ here)) (plain_silent es later)
plain_silent (disabled ∷ es) plain = plain_silent es plain

pub no_error_without_codes : (depth : ℕ) (cs : List Call) → without_codes (history depth cs) ≡ true → bit 2 (reached depth cs).core.capture.registers.ris ≡ false
no_error_without_codes depth cs plain = error_never_rises depth cs (plain_silent (history depth cs) plain)
