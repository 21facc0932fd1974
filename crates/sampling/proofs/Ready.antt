-- What the calls inside a sample ask, of a well-formed device that can count one sample more; and the sample from what they leave. Assumes nothing.
use mathlib.Core.List.{List}
use mathlib.Core.Path.{◌≡◌, ap}
use Prim.Native.Nat.{ℕ, ◌+◌, ◌≤◌, ◌<◌, ◌^◌}
use native.Mathlib.Omega.{arith}
use Rattle.registers.specs.Control.{embedded}
use Rattle.samples.specs.Samples.{bus_grant}
use lib.ListN.{length}
use mathlib.Core.Bool.{false}
use Rattle.std.specs.Prelude.{Some}
use Rattle.output.specs.Output.{slot_count, with_counts, count_sample, Granted, grant, counted}
use Rattle.output.specs.declared.SampleAnswer.{SampleAnswer}
use Rattle.output.specs.WellFormed.{Laid}
use Rattle.output.proofs.Contents.{not_malformed_laid}
use Rattle.output.proofs.Untouched.{grant_untouched}
use Rattle.rules.specs.WellFormed.{malformed, clauses}
use Rattle.bits.proofs.Booleans.{none as all_false}
use Rattle.rules.specs.declared.Capture.{Capture}
use Rattle.rules.specs.declared.Device.{Device}
use Rattle.rules.specs.State.{capture_of, output_of, with_pins, with_syncs}
use Rattle.rules.specs.Capture.{enabled, padded_at, Captured}
use Rattle.rules.specs.Run.{Completed, complete, step}
use Rattle.rules.proofs.WellFormed.{CaptureOk, WellFormed, facts}
use Rattle.fifo.specs.Notes.{note_landing, note_packing}
use Rattle.sampling.specs.Kinds.{stepped_as}
use Rattle.sampling.specs.Notes.{Noted, noted_step}
use Rattle.laws.proofs.RegisterValues.{uncropped}
use Rattle.laws.proofs.CaptureParts.{pins_syncs_ok}
use Rattle.laws.proofs.Sampled.{sample_ok}
use Rattle.laws.proofs.Unpadded.{sample_padded}
use Rattle.capture.specs.Answers.{ended}
use Rattle.laws.proofs.KeepsSample.{counted_laid}

pub more_lines : {m n : ℕ} {s : Capture} → m ≤ n → CaptureOk m s → CaptureOk n s
unfolding with_pins with_syncs
more_lines {s = s} le h = pins_syncs_ok s.pins s.syncs le h

-- A device that is not malformed is well-formed, and its FIFO is laid out in its slots.
pub ready : (d : Device) → length d.slots ≡ slot_count → malformed d ≡ false → WellFormed d × Laid (output_of d)
unfolding malformed
ready d all e = (facts d e, not_malformed_laid (output_of d) all (all_false (clauses d) e).0 (facts d e).output.depth)

-- Rule 1 of a sample of the device.
abbrev pub granted_of : Device → List ℕ → ℕ → Granted
granted_of d b w = grant (bus_grant w) (enabled (capture_of d)) (counted (output_of d)) b

module _ (d : Device) (b : List ℕ) (w : ℕ) (well : WellFormed d) (laid : Laid (output_of d)) (fits : d.core.output.counts.samples + 1 < 2 ^ 32) where
  pub asks_grant : Laid (counted (output_of d)) × ((d.core.output.place + 1 < 2 ^ 32) × (d.core.output.counts.landed + 1 < 2 ^ 32))
  asks_grant =
      let q = well.output in
      (counted_laid laid, (omega (arith, q.place, q.equation, q.completed), omega (arith, q.equation, q.completed)))

  pub asks_word : {g : Granted} → g ≡ granted_of d b w
      → Laid g.state × ((g.state.output.counts.completed + 1 < 2 ^ 32) × (g.state.output.counts.discarded + g.state.output.held + 1 < 2 ^ 32))
  unfolding counted count_sample with_counts
  asks_word e =
      let q = well.output in
      let left = grant_untouched (bus_grant w) (enabled (capture_of d)) (counted (output_of d)) b in
      rw e (
        left.laid (counted_laid laid),
        (omega (arith, left.completed, q.completed), omega (arith, left.discarded, left.held, q.equation, q.completed)),
      )

-- A sample of a kind, from what rule 1 and the rules of the kind leave and answer.
pub stepped : (d : Device) (b : List ℕ) (a : SampleAnswer) (w : ℕ) (c : Captured) {g : Granted} {r : Completed} → step d b w ≡ stepped_as c d b w → g ≡ granted_of d b w
    → r ≡ complete c.word c g.state
    → ◌≡◌ {A = Noted}
    (record { device = r.device; buffer = g.buffer; answer = note_packing r.packed (note_landing g.landing a) })
    (noted_step (record { device = d; buffer = b; answer = a }) w)
unfolding noted_step stepped_as
stepped d b a w c is granted after = rw (is, after, granted)

-- A sample that pads a word.
pub ended_fits : {n : ℕ} {s : Capture} (w v : ℕ) → CaptureOk n s → embedded s.registers.cr ≡ false → padded_at s w ≡ Some v → (ended s w).registers.ris ≤ 31
unfolding ended
ended_fits {s = s} w v h plain e = rw (← ap (λ (c : Captured). c.state) (sample_padded s w v plain (uncropped s.registers h.allowed) e)) (sample_ok w h).ris
