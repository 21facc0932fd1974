-- One sample whole, and a run (document 01, "One sample", "Memory and counts" and "Refusal numbers").
use Rattle.std.specs.Prelude.{cond, List, [], ◌∷◌, ◌++◌, ℕ, eqb, ltb, length, take, drop, Option, None, Some}
use Rattle.registers.specs.Control.{snapshot}
use Rattle.refusals.specs.Refusals.{Answer, answer}
use Rattle.samples.specs.Samples.{bus_grant}
use Rattle.run_refusals.specs.RunRefusals.{refusal_of}
use Rattle.output.specs.declared.Fate.{Fate}
use Rattle.output.specs.declared.Fate.TheVariants.{Held, Lost}
use Rattle.output.specs.Output.{OutputState, counted, grant, offer, discard, in_memory}
use Rattle.output.specs.declared.Packing.{Packing as Packed}
use Rattle.output.specs.declared.Packing.TheVariants.{Nothing as nothing, Completed as completed, Lost as lost}
use Rattle.output.specs.declared.SampleAnswer.{SampleAnswer}
use Rattle.rules.specs.declared.Capture.{Capture}
use Rattle.rules.specs.declared.Device.{Device}
use Rattle.rules.specs.State.{device, capture_of, output_of, raise, clear_capture, close_frame}
use Rattle.rules.specs.Capture.{Captured, enabled, flagged}
use Rattle.rules.specs.Sample.{capture_sample}
use Rattle.rules.specs.WellFormed.{malformed}

-- What rule 9 makes of a sample.
pub record Completed : Type 0 where
  pub device : Device
  pub packed : Packed

-- An overrun (004, 32.3.10, 32.3.7, 32.5.3 OVR_RIS): OVR rises, the frame closes without FRAME; with CM 1, CAPTURE becomes 0.
unfoldable pub lose_frame : Capture → Capture
lose_frame s = close_frame (cond (snapshot s.registers.cr) (clear_capture (raise 1 s)) (raise 1 s))

-- Rule 9, its two sentences, by what `offer` makes of a full word; the depth for four (W9). "With fewer than four held it is held": then FRAME rises where it is due (W4). "With four held: OVR rises, the
-- four and the new one are discarded, the frame closes without FRAME; with CM 1, CAPTURE becomes 0."
unfoldable pub after_word : Fate → ℕ → Captured → OutputState → Completed
after_word Held v c x = record { device = device (flagged c) x; packed = completed v }
after_word Lost v c x = record { device = device (lose_frame c.state) (discard 1 x); packed = lost }

-- A sample without a full word: FRAME rises where it is due, and where ERR rose (W6) the held words are discarded; or with one.
unfoldable pub complete : Option ℕ → Captured → OutputState → Completed
complete None c x = record { device = device (flagged c) (cond c.error (discard 0 x) x); packed = nothing }
complete (Some v) c x = after_word (offer v x).fate v c (offer v x).state

-- Rules 2 to 9 after the grant.
unfoldable pub after_grant : Capture → OutputState → ℕ → Completed
after_grant s x w = complete (capture_sample s w).word (capture_sample s w) x

-- What a sample makes of device and frame buffer, with its two answers: the byte of the frame buffer at which a word landed, if one
-- did, and whether no word was completed, one was, or one was lost.
pub record Stepped : Type 0 where
  pub device : Device
  pub buffer : List ℕ
  pub landing : Option ℕ
  pub packed : Packed

-- The nine rules in order: the grant (1), capture (2 to 8), the full word (9).
unfoldable pub step : Device → List ℕ → ℕ → Stepped
step d buffer w =
    let s = capture_of d in
    let g = grant (bus_grant w) (enabled s) (counted (output_of d)) buffer in
    let c = after_grant s g.state w in
    record { device = c.device; buffer = g.buffer; landing = g.landing; packed = c.packed }

-- Device and frame buffer after some samples.
pub record Ran : Type 0 where
  pub device : Device
  pub buffer : List ℕ

unfoldable pub steps : Device → List ℕ → List ℕ → Ran
steps d buffer [] = record { device = d; buffer = buffer }
steps d buffer (w ∷ ws) = steps (step d buffer w).device (step d buffer w).buffer ws

-- A run of some samples, or one sample: refusals 1, 9, 7, 8.
unfoldable pub run_refusal : Device → List ℕ → ℕ → List ℕ → ℕ
run_refusal d memory start samples = refusal_of (malformed d) (ltb (length memory) start) d.core.output.counts.samples samples

-- The refusal number, 0 where the run is accepted, and device and memory after it.
pub record RunResult : Type 0 where
  pub number : ℕ
  pub device : Device
  pub memory : List ℕ

-- The frame buffer is the part of the lent memory from the start byte to its end: no other byte changes.
unfoldable pub run : Device → List ℕ → ℕ → List ℕ → RunResult
run d memory start samples =
    let number = run_refusal d memory start samples in
    let r = steps d (drop start memory) samples in
    record {
      number = number;
      device = cond (eqb number 0) r.device d;
      memory = cond (eqb number 0) (take start memory ++ r.buffer) memory;
    }

-- The two answers of one sample, and device and memory after it.
pub record SampleResult : Type 0 where
  pub answer : Answer SampleAnswer
  pub device : Device
  pub memory : List ℕ

unfoldable pub sample : Device → List ℕ → ℕ → ℕ → SampleResult
sample d memory start w =
    let number = run_refusal d memory start (w ∷ []) in
    let r = step d (drop start memory) w in
    record {
      answer = answer number (record { landing = in_memory start r.landing; packed = r.packed });
      device = cond (eqb number 0) r.device d;
      memory = cond (eqb number 0) (take start memory ++ r.buffer) memory;
    }
