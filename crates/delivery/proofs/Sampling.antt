-- What some samples make, one after the other, with one start byte or two (W2): over one memory they are steps of the device over one frame buffer, over two steps with two. The idea: a frame buffer put back in its
-- memory is read again as it was put. Assumes nothing.
use mathlib.Core.Bool.{true, false≢true}
use mathlib.Core.List.{List, [], ◌∷◌, ◌++◌}
use mathlib.Core.Path.{◌≡◌, refl}
use Prim.Native.Nat.{ℕ, ◌≤◌}
use lib.ListN.{length, take, drop, take-append-drop}
use lib.Seq.{length-take-le, take_at, drop_at}
use Rattle.buffers.specs.declared.Buffer.TheVariants.{A}
use Rattle.rules.specs.declared.Device.{Device}
use Rattle.output.specs.declared.Packing.{Packing as Packed}
use Rattle.rules.specs.Run.{step, steps}
use Rattle.board_rules.specs.declared.Mode.{Mode}
use Rattle.board_rules.specs.declared.Mode.TheVariants.{One, Two}
use Rattle.board_rules.specs.State.{is_two}
use Rattle.board_rules.specs.TwoBuffers as buffer_rules
use Rattle.board_rules.specs.TwoBuffers.{Pair, with_part, two_step, two_steps}
use Rattle.board_rules.specs.BoardRuns.{Lent, Both, refilled, filled, turns_of, opened}
use Rattle.board_rules.specs.BoardRuns as board_runs
use Rattle.delivery.specs.Calls.{Starts, one_memory, two_memories, System, lending, stepped}

-- What some samples make.
unfoldable pub sampled : Starts → System → List ℕ → System
sampled t s [] = s
sampled t s (w ∷ ws) = sampled t (stepped t s w) ws

pub sampled_append : (t : Starts) (s : System) (xs ys : List ℕ) → sampled t s (xs ++ ys) ≡ sampled t (sampled t s xs) ys
unfolding sampled
sampled_append t s [] ys = refl
sampled_append t s (w ∷ ws) ys = sampled_append t (stepped t s w) ws ys

-- What one answers of its word.
unfoldable pub packs : Starts → System → ℕ → Packed
packs (one_memory start) s w = (step s.board.device (drop start s.memories.a) w).packed
packs (two_memories start_a start_b) s w = (two_step (opened s.board (lending start_a start_b s.memories)) w).packed

-- A frame buffer put back in its memory, and read again.
refilled_buffer : (l : Lent) (b : List ℕ) → l.start ≤ length l.memory → drop l.start (refilled l b) ≡ b
refilled_buffer l b fits = drop_at (take l.start l.memory) b l.start (length-take-le _ _ fits)

refilled_again : (l : Lent) (b b' : List ℕ) → l.start ≤ length l.memory → take l.start (refilled l b) ++ b' ≡ refilled l b'
refilled_again l b b' fits = rw (take_at (take l.start l.memory) b l.start (length-take-le _ _ fits))

-- Over one memory: the samples are steps of the device over A's frame buffer.
module _ (start : ℕ) (m : Pair) (mode : Mode) where
  abbrev pub one_with : Device → List ℕ → System
  one_with d b = record { board = record { device = d; mode = mode }; memories = with_part A (take start m.a ++ b) m }

  pub one_steps : (d : Device) (b ws : List ℕ) → start ≤ length m.a → sampled (one_memory start) (one_with d b) ws ≡ one_with (steps d b ws).device (steps d b ws).buffer
  unfolding sampled steps stepped
  one_steps d b [] fits = refl
  one_steps d b (w ∷ ws) fits =
      let l : Lent = record { memory = m.a; start = start } in
      rw (refilled_buffer l b fits, refilled_again l b _ fits) (one_steps (step d b w).device (step d b w).buffer ws fits)

pub as_one : (start : ℕ) (s : System) → s ≡ one_with start s.memories s.board.mode s.board.device (drop start s.memories.a)
as_one start s = rw (take-append-drop start s.memories.a)

-- Over two: they are steps with two frame buffers.
abbrev pub two_with : Both → buffer_rules.Two → System
two_with l x = record { board = board_runs.board x; memories = filled l x.buffers }

abbrev pub Reaching : Both → Type 0
Reaching l = (l.a.start ≤ length l.a.memory) × (l.b.start ≤ length l.b.memory)

pub many_steps : (l : Both) (x : buffer_rules.Two) (ws : List ℕ) → Reaching l
    → sampled (two_memories l.a.start l.b.start) (two_with l x) ws ≡ two_with l (two_steps x ws)
unfolding sampled two_steps stepped turns_of
many_steps l x [] fits = refl
many_steps l x (w ∷ ws) fits =
    rw (refilled_buffer l.a x.buffers.a fits.0, refilled_buffer l.b x.buffers.b fits.1, refilled_again l.a x.buffers.a _ fits.0, refilled_again l.b x.buffers.b _ fits.1)
    (many_steps l (two_step x w).after ws fits)

two_mode : (m : Mode) → is_two m ≡ true → m ≡ Two (turns_of m)
unfolding turns_of
two_mode One e = absurd (false≢true e)
two_mode (Two t) e = refl

pub as_two : (start_a start_b : ℕ) (s : System) → is_two s.board.mode ≡ true
    → let l = lending start_a start_b s.memories in s ≡ two_with l (opened s.board l)
as_two start_a start_b s e = rw (← two_mode s.board.mode e, take-append-drop start_a s.memories.a, take-append-drop start_b s.memories.b)
