-- The premises are needed. That of the grants at every depth (W9): with windows one sample longer, or with one grant fewer in each, a frame overruns, though there is room, with JPEG (W4) and with two buffers (W2) too. At depths
-- 1 and 4 by computation over the rules, at depth 32 on the queue alone, whose theorem is over every depth and spacing. That of ERR (W6): a word is lost without it. That of one start: a word stands elsewhere without it. Assumes nothing.
use mathlib.Core.Bool.{true, false}
use mathlib.Core.List.{List, [], ◌∷◌, ◌++◌, map}
use mathlib.Core.Path.{◌≡◌, refl, ap, ◌∙◌}
use Prim.Native.Nat.{ℕ, ◌+◌, ◌*◌}
use native.Mathlib.Omega.{arith}
use lib.ListN.{length, replicate}
use Rattle.bits.specs.Bits.{bit}
use Rattle.buffers.specs.declared.Buffer.TheVariants.{A}
use Rattle.output.specs.WellFormed.{bad_depth}
use Rattle.queue.proofs.Sharp as queue
use Rattle.delivery.specs.Calls.{two_buffers, one_memory, two_memories, a_run}
use Rattle.delivery.specs.Noted.{any_error}
use Rattle.delivery.specs.Placed.{with_word, with_noted}
use Rattle.delivery.specs.Delivery.{Scenario, set_up, trace, configured, distance, noted_by, Provided}
use Rattle.delivery.proofs.Outcome.{tails, Windows, has_room, has_grants, final, Outcome, outcome, windows, provided, twelve_bits, eight_bits, coded, clocked, code, granting, pixels, every, periods, alone, one_run, padded_run}

pub record Overruns (w g : ℕ) (noted : List ℕ) (m : ℕ) (x : Scenario) : Type 0 where
  -- The device was made, the samples have one start, there is room for all words, each w samples hold at least g grants, and ERR never rises.
  pub windows : Windows w g x
  pub no_error : any_error (configured x).capture (trace x) ≡ false
  -- Words are noted at these samples.
  pub words : map (λ n. n.sample) (noted_by x (length (trace x))) ≡ noted
  -- At the end OVR is up, and m words are lost.
  pub overrun : bit 1 (final (set_up x) x.calls).board.device.core.capture.registers.ris ≡ true
  pub discarded : (final (set_up x) x.calls).board.device.core.output.counts.discarded ≡ m

-- The outcome of a run of n samples with k words: l of them land, and the last is lost and takes the held ones, as many as the depth, with it: m together.
abbrev last_lost : ℕ → ℕ → ℕ → ℕ → ℕ → Outcome
last_lost s k n l m =
    record {
      met = true;
      distance = s;
      refusals = 0 ∷ [];
      moments = n + 3;
      samples = n;
      noted = every s (s + 2) k;
      completed = k;
      landed = l;
      discarded = m;
      held = [];
      overrun = true;
      error = false;
    }

overruns_as : (w g : ℕ) (o : Outcome) (x : Scenario) → o.met ≡ true → o.error ≡ false → o.overrun ≡ true → outcome w g x ≡ o → Overruns w g o.noted o.discarded x
unfolding outcome
overruns_as w g o x met calm overrun e =
    record {
      windows = windows w g x (ap (λ o. o.met) e ∙ met);
      no_error = ap (λ o. o.error) e ∙ calm;
      words = ap (λ o. o.noted) e;
      overrun = ap (λ o. o.overrun) e ∙ overrun;
      discarded = ap (λ o. o.discarded) e;
    }

overruns : (w g s k n l m : ℕ) (x : Scenario) → outcome w g x ≡ last_lost s k n l m → Overruns w g (every s (s + 2) k) m x
overruns w g s k n l m x e = overruns_as w g (last_lost s k n l m) x refl refl refl e

-- Depth 4: four grants in each 17 samples, three in each 16.
pub slow : Overruns 17 4 (every 4 6 17) 5 (one_run 4 twelve_bits (periods 4 4 13))
unfolding outcome
slow = overruns 17 4 4 17 70 12 5 (one_run 4 twelve_bits (periods 4 4 13)) refl

pub scarce : Overruns 16 3 (every 4 6 8) 5 (one_run 4 twelve_bits (periods 2 3 13))
unfolding outcome
scarce = overruns 16 3 4 8 34 3 5 (one_run 4 twelve_bits (periods 2 3 13)) refl

-- The same at 8 bits: four in each 33, three in each 32.
pub slow_8 : Overruns 33 4 (every 8 10 17) 5 (one_run 4 eight_bits (replicate 4 false ++ periods 4 4 29))
unfolding outcome
slow_8 = overruns 33 4 8 17 138 12 5 (one_run 4 eight_bits (replicate 4 false ++ periods 4 4 29)) refl

pub scarce_8 : Overruns 32 3 (every 8 10 8) 5 (one_run 4 eight_bits (replicate 4 false ++ periods 2 3 29))
unfolding outcome
scarce_8 = overruns 32 3 8 8 70 3 5 (one_run 4 eight_bits (replicate 4 false ++ periods 2 3 29)) refl

-- With JPEG (W4), frames of one pixel, so that each word is padded and they come four samples apart: four in each 17, three in each 16. The grants that do for 8 bits
-- without JPEG, four in each 32, are too few.
pub slow_jpeg : Overruns 17 4 (every 4 6 17) 5 (padded_run 4 (periods 4 4 13))
unfolding outcome
slow_jpeg = overruns 17 4 4 17 70 12 5 (padded_run 4 (periods 4 4 13)) refl

pub scarce_jpeg : Overruns 16 3 (every 4 6 8) 5 (padded_run 4 (periods 2 3 13))
unfolding outcome
scarce_jpeg = overruns 16 3 4 8 34 3 5 (padded_run 4 (periods 2 3 13)) refl

abbrev as_at_8_bits : Scenario
as_at_8_bits = padded_run 4 (replicate 14 false ++ replicate 4 true ++ replicate 18 false)

pub too_few_jpeg : Overruns 32 4 (every 4 6 9) 5 as_at_8_bits
unfolding outcome
too_few_jpeg = overruns 32 4 4 9 38 4 5 as_at_8_bits refl

-- With codes in the data (W6) the grants that do for 8 bits without ESS, four in each 32, are too few: they come before the first of two words four samples apart, and the words after them,
-- each eight samples on, fill the FIFO before the next grant is due.
abbrev as_without_codes : Scenario
as_without_codes =
    record {
      depth = 4;
      set_up_calls = coded;
      calls =
          a_run (one_memory 0)
          (clocked (code 0xA1) ++ clocked (1 ∷ 2 ∷ 3 ∷ 0xFF ∷ []) ++ granting (clocked (0 ∷ 4 ∷ [])) ++
          clocked (5 ∷ 6 ∷ 7 ∷ 8 ∷ 9 ∷ 10 ∷ 11 ∷ 12 ∷ 13 ∷ 14 ∷ 15 ∷ 16 ∷ 17 ∷ 18 ∷ [])) ∷
          [];
      lent = alone 0 (replicate 20 0xEE);
    }

abbrev too_few : Outcome
too_few =
    record {
      met = true;
      distance = 4;
      refusals = 0 ∷ [];
      moments = 4 + 48 + 1;
      samples = 48;
      noted = 20 ∷ 24 ∷ 32 ∷ 40 ∷ 48 ∷ [];
      completed = 5;
      landed = 0;
      discarded = 5;
      held = [];
      overrun = true;
      error = false;
    }

pub too_few_codes : Overruns 32 4 (20 ∷ 24 ∷ 32 ∷ 40 ∷ 48 ∷ []) 5 as_without_codes
unfolding outcome
too_few_codes = overruns_as 32 4 too_few as_without_codes refl refl refl refl

-- Depth 1: one grant in each 5 samples, none in each 4.
pub depth_1_slow : Overruns 5 1 (every 4 6 3) 2 (one_run 1 twelve_bits (replicate 2 false ++ periods 2 1 4))
unfolding outcome
depth_1_slow = overruns 5 1 4 3 14 1 2 (one_run 1 twelve_bits (replicate 2 false ++ periods 2 1 4)) refl

pub depth_1_scarce : Overruns 4 0 (every 4 6 2) 2 (one_run 1 twelve_bits (replicate 8 false))
unfolding outcome
depth_1_scarce = overruns 4 0 4 2 10 0 2 (one_run 1 twelve_bits (replicate 8 false)) refl

-- The same at 8 bits: one in each 9, none in each 8.
pub depth_1_slow_8 : Overruns 9 1 (every 8 10 3) 2 (one_run 1 eight_bits (replicate 6 false ++ periods 2 1 8))
unfolding outcome
depth_1_slow_8 = overruns 9 1 8 3 26 1 2 (one_run 1 eight_bits (replicate 6 false ++ periods 2 1 8)) refl

pub depth_1_scarce_8 : Overruns 8 0 (every 8 10 2) 2 (one_run 1 eight_bits (replicate 16 false))
unfolding outcome
depth_1_scarce_8 = overruns 8 0 8 2 18 0 2 (one_run 1 eight_bits (replicate 16 false)) refl

-- With two buffers (W2) at depth 1: one grant in each 5 samples. The words are those of one frame.
abbrev slow_in_two : Scenario
slow_in_two =
    record {
      depth = 1;
      set_up_calls = two_buffers ∷ twelve_bits ∷ [];
      calls = a_run (two_memories 0 0) (0x0C000 ∷ 0x1C000 ∷ pixels 0 (replicate 2 false ++ periods 2 1 4)) ∷ [];
      lent = alone 0 (replicate 12 0xEE);
    }

abbrev lost_in_two : Outcome
lost_in_two =
    record {
      met = true;
      distance = 4;
      refusals = 0 ∷ [];
      moments = 14 + 4;
      samples = 14;
      noted = every 4 6 3;
      completed = 3;
      landed = 1;
      discarded = 2;
      held = [];
      overrun = true;
      error = false;
    }

pub depth_1_slow_two : Overruns 5 1 (every 4 6 3) 2 slow_in_two
unfolding outcome
depth_1_slow_two = overruns_as 5 1 lost_in_two slow_in_two refl refl refl refl

-- The premise of ERR is needed (W6): all others are met, and a word is lost though there is no overrun.
pub record Errs (m : ℕ) (x : Scenario) : Type 0 where
  pub provided : Provided x
  pub error : any_error (configured x).capture (trace x) ≡ true
  -- At the end ERR is up and OVR is not, and m words are lost.
  pub flag : bit 2 (final (set_up x) x.calls).board.device.core.capture.registers.ris ≡ true
  pub no_overrun : bit 1 (final (set_up x) x.calls).board.device.core.capture.registers.ris ≡ false
  pub discarded : (final (set_up x) x.calls).board.device.core.output.counts.discarded ≡ m

-- A frame of one word, which is held when a line starts in the open line. The grants came before it.
abbrev line_in_line : Scenario
line_in_line =
    record {
      depth = 4;
      set_up_calls = coded;
      calls = a_run (one_memory 0) (clocked (code 0xA1) ++ granting (clocked (1 ∷ 2 ∷ [])) ++ clocked (3 ∷ 4 ∷ []) ++ clocked (code 0xB2)) ∷ [];
      lent = alone 0 (replicate 4 0xEE);
    }

pub lost_by_error : Errs 1 line_in_line
unfolding outcome
lost_by_error = record { provided = provided 4 line_in_line refl refl; error = refl; flag = refl; no_overrun = refl; discarded = refl }

-- The premise of one start is needed: all others are met, and with a second start byte the second word does not stand behind the first.
abbrev two_starts : Scenario
two_starts =
    record {
      depth = 4;
      set_up_calls = twelve_bits ∷ [];
      calls =
          a_run (one_memory 0) (0x0C000 ∷ 0x1C000 ∷ pixels 0 (replicate 4 false ++ replicate 2 true)) ∷
          a_run (one_memory 2) (pixels 6 (replicate 2 false ++ replicate 2 true)) ∷
          [];
      lent = alone 0 (replicate 10 0xEE);
    }

pub record Misplaced (noted landed : List ℕ) (x : Scenario) : Type 0 where
  pub made : bad_depth x.depth ≡ false
  pub room : has_room x ≡ true
  pub granted : tails (has_grants (x.depth * distance x) x.depth) (trace x) ≡ true
  pub no_error : any_error (configured x).capture (trace x) ≡ false
  -- What stands in A, and the noted words stored from its start on.
  pub stands : (final (set_up x) x.calls).memories.a ≡ landed
  pub should_stand : with_noted A x.lent.a.start (noted_by x (length (trace x))) x.lent.a.memory ≡ noted

pub with_two_starts : Misplaced (1 ∷ 0 ∷ 2 ∷ 0 ∷ 3 ∷ 0 ∷ 4 ∷ 0 ∷ 0xEE ∷ 0xEE ∷ []) (1 ∷ 0 ∷ 2 ∷ 0 ∷ 0xEE ∷ 0xEE ∷ 3 ∷ 0 ∷ 4 ∷ 0 ∷ []) two_starts
unfolding outcome with_word with_noted
with_two_starts = record { made = refl; room = refl; granted = refl; no_error = refl; stands = refl; should_stand = refl }

-- Depth 32, on the queue: 32 grants in each 129 samples, 31 in each 128; at 8 bits 32 in each 257, 31 in each 256.
pub depth_32_slow : queue.Starved 32 4 129 32
depth_32_slow = queue.slow 32 4 (omega arith)

pub depth_32_scarce : queue.Starved 32 4 128 31
depth_32_scarce = queue.scarce 31 4 (omega arith)

pub depth_32_slow_8 : queue.Starved 32 8 257 32
depth_32_slow_8 = queue.slow 32 8 (omega arith)

pub depth_32_scarce_8 : queue.Starved 32 8 256 31
depth_32_scarce_8 = queue.scarce 31 8 (omega arith)
