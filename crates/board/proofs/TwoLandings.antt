-- A landing's byte in its memory, by the buffer: it is within the memory. Assumes nothing.
use Rattle.std.specs.Prelude.{Option, None, Some}
use mathlib.Core.Path.{◌≡◌, refl, subst}
use Prim.Native.Nat.{ℕ, ◌+◌, ◌<◌, ◌^◌}
use native.Mathlib.Omega.{arith}
use lib.ListN.{length, length-drop}
use Rattle.buffers.specs.declared.Buffer.{Buffer}
use Rattle.buffers.specs.declared.Buffer.TheVariants.{A, B}
use Rattle.buffers.specs.declared.Turns.{Turns}
use Rattle.buffers.specs.Turns.{oldest_buffer, oldest_place}
use Rattle.rules.specs.declared.Device.{Device}
use Rattle.rules.specs.RegisterCalls.{placed}
use Rattle.rules.specs.Run.{Stepped, step}
use Rattle.board_rules.specs.TwoBuffers as buffer_rules
use Rattle.board_rules.specs.TwoBuffers.{part, landing_in, two_step}
use Rattle.board_rules.specs.BoardRuns.{Both, lent, buffers, in_memory}
use Rattle.sampling.proofs.AcceptedRuns.{landing_within}
use Rattle.board_rules.specs.declared.Landing.{Landing}
use Rattle.board.specs.Answers.{start_in, Within, in_memories}

pub same_landing : (l : Both) (o : Option Landing) → in_memories l.a.start l.b.start o ≡ in_memory l o
unfolding in_memories in_memory
same_landing l None = refl
same_landing l (Some x) = go x.buffer
  where
    go : (u : Buffer)
        → ◌≡◌ {A = Option Landing}
        (Some (record { buffer = u; byte = start_in l.a.start l.b.start u + x.byte }))
        (Some (record { buffer = u; byte = (lent u l).start + x.byte }))
    go A = refl
    go B = refl

-- A word lands within its frame buffer.
lands_within : (x : buffer_rules.Two) (w : ℕ) (l : Landing) → (two_step x w).landing ≡ Some l → l.byte < length (part l.buffer x.buffers)
unfolding two_step
lands_within x w l e = go r.landing (λ n. landing_within (part u x.buffers) n found w) e
  where
    u : Buffer
    u = oldest_buffer x.turns

    found : Device
    found = placed (oldest_place x.device.core.output.place x.turns) x.device

    r : Stepped
    r = step found (part u x.buffers) w

    go : (o : Option ℕ) → ((n : ℕ) → o ≡ Some n → n < length (part u x.buffers)) → landing_in u o ≡ Some l → l.byte < length (part l.buffer x.buffers)
    go None h e = let z : ◌≡◌ {A = ℕ} 0 1 = cc in absurd (omega arith)
    go (Some n) h e =
        let is : record { buffer = u; byte = n } ≡ l = cc in
        subst (λ (y : Landing). y.byte < length (part y.buffer x.buffers)) is (h n refl)

-- The memory's length is below 2 ^ 64.
pub landing_fits : (d : Device) (t : Turns) (l : Both) (w : ℕ) → length l.a.memory < 2 ^ 64 → length l.b.memory < 2 ^ 64
    → Within l.a.start l.b.start (two_step (record { device = d; turns = t; buffers = buffers l }) w).landing
landing_fits d t l w fits_a fits_b x e = go x.buffer x.byte (lands_within _ w x e)
  where
    go : (u : Buffer) (n : ℕ) → n < length (part u (buffers l)) → start_in l.a.start l.b.start u + n < 2 ^ 64
    go A n h = omega (arith, rw length-drop at h)
    go B n h = omega (arith, rw length-drop at h)
