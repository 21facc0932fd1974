-- What is noted along some samples changes neither device nor buffer; and of one sample, where nothing was noted before, it is the sample's two answers. Assumes nothing.
use mathlib.Core.List.{List, [], ◌∷◌, ◌++◌}
use mathlib.Core.Path.{◌≡◌, refl}
use Prim.Native.Nat.{ℕ}
use lib.ListN.{take, drop}
use Rattle.refusals.specs.Refusals.{answered}
use Rattle.rules.specs.declared.Device.{Device}
use Rattle.output.specs.Output.{in_memory}
use Rattle.rules.specs.Run.{Stepped, step, Ran, steps, run_refusal, SampleResult, sample}
use Rattle.fifo.specs.Notes.{no_answer}
use Rattle.fifo.proofs.SaidBack.{said_back}
use Rattle.sampling.specs.Notes.{Noted, noted_step, noted_steps}

pub same_run : (n : Noted) (ws : List ℕ)
    → ◌≡◌ {A = Ran} (record { device = (noted_steps n ws).device; buffer = (noted_steps n ws).buffer }) (steps n.device n.buffer ws)
unfolding noted_steps noted_step steps
same_run n [] = refl
same_run n (w ∷ ws) = same_run (noted_step n w) ws

pub one_sample : (d : Device) (b : List ℕ) (w : ℕ) {n : Noted}
    → n ≡ noted_steps (record { device = d; buffer = b; answer = no_answer }) (w ∷ [])
    → ◌≡◌ {A = Stepped}
    (record { device = n.device; buffer = n.buffer; landing = n.answer.landing; packed = n.answer.packed })
    (step d b w)
unfolding noted_steps noted_step
one_sample d b w e = rw (e, said_back)

-- A single sample that is accepted.
pub accepted_sample : (d : Device) (memory : List ℕ) (start w : ℕ) {r : Stepped} → run_refusal d memory start (w ∷ []) ≡ 0 → r ≡ step d (drop start memory) w
    → ◌≡◌ {A = SampleResult}
    (record { answer = answered (record { landing = in_memory start r.landing; packed = r.packed }); device = r.device; memory = take start memory ++ r.buffer })
    (sample d memory start w)
unfolding sample
accepted_sample d memory start w accepted one = rw (accepted, one)
