-- Samples with their two answers noted in a lent place (crate `fifo`, Notes). No contract of a call that users make cites them.
use Rattle.std.specs.Prelude.{List, [], ◌∷◌, ℕ}
use Rattle.output.specs.declared.SampleAnswer.{SampleAnswer}
use Rattle.rules.specs.declared.Device.{Device}
use Rattle.rules.specs.Run.{step}
use Rattle.fifo.specs.Notes.{note_landing, note_packing}

-- Device, frame buffer and what is noted.
pub record Noted : Type 0 where
  pub device : Device
  pub buffer : List ℕ
  pub answer : SampleAnswer

-- One sample, with its answers noted; and some samples.
unfoldable pub noted_step : Noted → ℕ → Noted
noted_step n w =
    let r = step n.device n.buffer w in
    record {
      device = r.device;
      buffer = r.buffer;
      answer = note_packing r.packed (note_landing r.landing n.answer);
    }

unfoldable pub noted_steps : Noted → List ℕ → Noted
noted_steps n [] = n
noted_steps n (w ∷ ws) = noted_steps (noted_step n w) ws
