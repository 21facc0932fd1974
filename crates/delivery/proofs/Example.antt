-- The premises can be met. At depth 4, at 12 bits and at 8: a scenario with runs, single samples and calls refused 9 and 7 between them; five words are noted, and the four samples
-- that grant stand in every 16 (32) of them. With JPEG (W4) words are padded, some of them four samples after the one before. With codes in the data (W6) released bytes bring two words four samples apart. At depth 1 each word waits as long as the deadline lets it. At depth 32 up to 25 words are held (W9).
-- With two buffers (W2) frames go to A, B and A, with JPEG and with codes too; calls refused 16, 9 and 7 stand between the accepted ones. Assumes nothing.
use mathlib.Core.Bool.{true, false}
use mathlib.Core.List.{List, [], ◌∷◌, ◌++◌, map}
use mathlib.Core.Path.{◌≡◌, refl, ap, ◌∙◌}
use Prim.Native.Nat.{ℕ, ◌+◌, ◌*◌}
use native.Mathlib.Omega.{arith}
use lib.ListN.{replicate}
use Rattle.output.specs.Output.{usual_depth}
use Rattle.buffers.specs.declared.Buffer.{Buffer}
use Rattle.buffers.specs.declared.Buffer.TheVariants.{A, B}
use Rattle.board_rules.specs.TwoBuffers.{Pair}
use Rattle.board_rules.specs.BoardRuns.{Both}
use Rattle.delivery.specs.Calls.{SetUpCall, a_write, one_buffer, two_buffers, Starts, one_memory, two_memories, a_run, a_sample}
use Rattle.delivery.specs.Noted.{Turn}
use Rattle.delivery.specs.Delivery.{Scenario, set_up, noted_by, Premises, Promised, All, all_moments}
use Rattle.delivery.proofs.Theorem.{delivery}
use Rattle.delivery.proofs.Outcome.{final, Outcome, outcome, premises, twelve_bits, eight_bits, compressed, coded, clocked, code, granting, pixels, every, periods, alone, one_run}

-- The start byte of the scenarios with one memory, and those with two (W2).
abbrev at_3 : Starts
at_3 = one_memory 3

abbrev at_3_and_1 : Starts
at_3_and_1 = two_memories 3 1

-- A blank edge and n samples of pixels in a run, 6 + m in another, four of which grant, and four alone. Between them calls that start beyond the memory, or bring a bit above 17, are refused; an empty run may start elsewhere.
abbrev pub example : SetUpCall → ℕ → ℕ → Scenario
example cr n m =
    record {
      depth = usual_depth;
      set_up_calls = cr ∷ [];
      calls =
          a_run at_3 (0x0C000 ∷ 0x1C000 ∷ pixels 0 (replicate n false)) ∷
          a_run (one_memory 25) (pixels n (replicate 2 false)) ∷
          a_run at_3 (pixels n (false ∷ []) ++ 0x40000 ∷ []) ∷
          a_run at_3 (pixels n (replicate 2 false ++ replicate 4 true ++ replicate m false)) ∷
          a_run (one_memory 24) [] ∷
          map (a_sample at_3) (pixels (n + 6 + m) (replicate 2 false)) ++
          a_sample (one_memory 25) 0 ∷
          a_sample at_3 0x40000 ∷
          map (a_sample at_3) (pixels (n + 8 + m) (replicate 2 false));
      lent = alone 3 (replicate 24 0xEE);
    }

-- The outcome with s samples from word to word: two moments before n samples in eleven calls, three words landed, two held.
abbrev three_landed : ℕ → ℕ → List ℕ → Outcome
three_landed s n held =
    record {
      met = true;
      distance = s;
      refusals = 0 ∷ 9 ∷ 7 ∷ 0 ∷ 0 ∷ 0 ∷ 0 ∷ 9 ∷ 7 ∷ 0 ∷ 0 ∷ [];
      moments = 2 + n + 11;
      samples = n;
      noted = every s (s + 2) 5;
      completed = 5;
      landed = 3;
      discarded = 0;
      held = held;
      overrun = false;
      error = false;
    }

-- A scenario that comes to an outcome, with these memories at the end.
pub record Delivers (o : Outcome) (at_end : Pair) (x : Scenario) : Type 0 where
  pub comes_to : outcome (x.depth * o.distance) x.depth x ≡ o
  pub in_memory : (final (set_up x) x.calls).memories ≡ at_end
  -- So the theorem speaks of the scenario, at each of its moments.
  pub met : Premises x
  pub promised : All (Promised x) (all_moments x)

delivers : (o : Outcome) {at_end : Pair} (x : Scenario) → o.met ≡ true → o.error ≡ false → outcome (x.depth * o.distance) x.depth x ≡ o
    → (final (set_up x) x.calls).memories ≡ at_end → Delivers o at_end x
delivers o x t calm e m =
    let met = premises o.distance x (ap (λ (r : Outcome). r.met) e ∙ t) (ap (λ (r : Outcome). r.distance) e) (ap (λ (r : Outcome). r.error) e ∙ calm) in
    record { comes_to = e; in_memory = m; met = met; promised = delivery x met }

-- A memory alone; the bytes of the landed words, and those around them.
abbrev only : List ℕ → Pair
only memory = record { a = memory; b = [] }

abbrev around : List ℕ → Pair
around landed = only (replicate 3 0xEE ++ landed ++ replicate 9 0xEE)

abbrev twelve : Outcome
twelve = three_landed 4 22 (0x80007 ∷ 0xA0009 ∷ [])

pub at_12_bits :
    Delivers twelve (around (1 ∷ 0 ∷ 2 ∷ 0 ∷ 3 ∷ 0 ∷ 4 ∷ 0 ∷ 5 ∷ 0 ∷ 6 ∷ 0 ∷ [])) (example twelve_bits 8 2)
unfolding outcome
at_12_bits = delivers twelve (example twelve_bits 8 2) refl refl refl refl

abbrev eight : Outcome
eight = three_landed 8 42 (0x100F0E0D ∷ 0x14131211 ∷ [])

pub at_8_bits :
    Delivers eight (around (1 ∷ 2 ∷ 3 ∷ 4 ∷ 5 ∷ 6 ∷ 7 ∷ 8 ∷ 9 ∷ 10 ∷ 11 ∷ 12 ∷ [])) (example eight_bits 20 10)
unfolding outcome
at_8_bits = delivers eight (example eight_bits 20 10) refl refl refl refl

-- JPEG (W4), with one buffer or two: frames of five, one and four bytes. The first leaves one over, so that its last word is padded, four samples after the one before; so does the second; the third
-- leaves none, and pads none. Three words land in time, two padded ones among them.
abbrev pub pictures : List SetUpCall → Starts → Both → Scenario
pictures set_up_calls t lent =
    record {
      depth = usual_depth;
      set_up_calls = set_up_calls ++ compressed ∷ [];
      calls =
          a_run t (clocked (0xC000 ∷ 1 ∷ 2 ∷ 3 ∷ 4 ∷ 5 ∷ [])) ∷
          a_run t (0x0C000 ∷ 0x40000 ∷ []) ∷
          map (a_sample t) (0x2C000 ∷ 0x3C000 ∷ []) ++
          a_sample t 0x40000 ∷
          a_run t (granting (clocked (6 ∷ []))) ∷
          map (a_sample t) (clocked (0xC000 ∷ [])) ++
          a_run t (clocked (7 ∷ 8 ∷ []) ++ granting (clocked (9 ∷ [])) ++ clocked (10 ∷ 0xC000 ∷ [])) ∷
          [];
      lent = lent;
    }

abbrev padded : ℕ → Outcome
padded n =
    record {
      met = true;
      distance = 4;
      refusals = 0 ∷ 7 ∷ 0 ∷ 0 ∷ 7 ∷ 0 ∷ 0 ∷ 0 ∷ 0 ∷ [];
      moments = n + 28 + 9;
      samples = 28;
      noted = 10 ∷ 14 ∷ 18 ∷ 26 ∷ [];
      completed = 4;
      landed = 3;
      discarded = 0;
      held = 0x0A090807 ∷ [];
      overrun = false;
      error = false;
    }

abbrev one_lent : Both
one_lent = alone 3 (replicate 24 0xEE)

abbrev two_lent : Both
two_lent = record { a = record { memory = replicate 16 0xEE; start = 3 }; b = record { memory = replicate 10 0xDD; start = 1 } }

pub with_jpeg :
    Delivers (padded 2)
    (only (replicate 3 0xEE ++ (1 ∷ 2 ∷ 3 ∷ 4 ∷ 5 ∷ 0 ∷ 0 ∷ 0 ∷ 6 ∷ 0 ∷ 0 ∷ 0 ∷ []) ++ replicate 9 0xEE))
    (pictures [] at_3 one_lent)
unfolding outcome
with_jpeg = delivers (padded 2) (pictures [] at_3 one_lent) refl refl refl refl

-- With two (W2) the second frame's word stands in B.
pub with_jpeg_in_two :
    Delivers (padded 3)
    (record { a = replicate 3 0xEE ++ (1 ∷ 2 ∷ 3 ∷ 4 ∷ 5 ∷ 0 ∷ 0 ∷ 0 ∷ []) ++ replicate 5 0xEE; b = 0xDD ∷ (6 ∷ 0 ∷ 0 ∷ 0 ∷ []) ++ replicate 5 0xDD })
    (pictures (two_buffers ∷ []) at_3_and_1 two_lent)
unfolding outcome
with_jpeg_in_two = delivers (padded 3) (pictures (two_buffers ∷ []) at_3_and_1 two_lent) refl refl refl refl

-- Codes in the data (W6), with one buffer or two: after 1, 2, 3 the bytes FF 00 begin like a code, and the 4 releases all three. FF fills the first word, and 00, 4 begin the second, which 5 and 6 fill four
-- samples later. A second frame brings two words. Four words land in time, and the last is held.
abbrev pub coded_lines : List SetUpCall → Starts → Both → Scenario
coded_lines set_up_calls t lent =
    record {
      depth = usual_depth;
      set_up_calls = set_up_calls ++ coded;
      calls =
          a_run t (clocked (code 0xA1)) ∷
          a_run t (granting (clocked (1 ∷ 2 ∷ []))) ∷
          a_run t (clocked (3 ∷ []) ++ 0x40000 ∷ []) ∷
          a_run t (clocked (3 ∷ 0xFF ∷ 0 ∷ [])) ∷
          map (a_sample t) (clocked (4 ∷ 5 ∷ 6 ∷ [])) ++
          a_sample t 0x40000 ∷
          a_run t (granting (clocked (7 ∷ 8 ∷ []))) ∷
          a_run t (clocked (9 ∷ 10 ∷ code 0xD4)) ∷
          a_run t (granting (clocked (0xFF ∷ 0 ∷ []))) ∷
          a_run t (clocked (0 ∷ 0xA1 ∷ 11 ∷ 12 ∷ 13 ∷ 14 ∷ [])) ∷
          a_run t (granting (clocked (15 ∷ 16 ∷ [])) ++ clocked (17 ∷ 18 ∷ [])) ∷
          [];
      lent = lent;
    }

abbrev released : ℕ → Outcome
released n =
    record {
      met = true;
      distance = 4;
      refusals = 0 ∷ 0 ∷ 7 ∷ 0 ∷ 0 ∷ 0 ∷ 0 ∷ 0 ∷ 0 ∷ 0 ∷ 7 ∷ 0 ∷ 0 ∷ 0 ∷ 0 ∷ 0 ∷ [];
      moments = n + 64 + 16;
      samples = 64;
      noted = 20 ∷ 24 ∷ 32 ∷ 56 ∷ 64 ∷ [];
      completed = 5;
      landed = 4;
      discarded = 0;
      held = 0x1211100F ∷ [];
      overrun = false;
      error = false;
    }

pub with_codes :
    Delivers (released 4)
    (only (replicate 3 0xEE ++ (1 ∷ 2 ∷ 3 ∷ 0xFF ∷ 0 ∷ 4 ∷ 5 ∷ 6 ∷ 7 ∷ 8 ∷ 9 ∷ 10 ∷ 11 ∷ 12 ∷ 13 ∷ 14 ∷ []) ++ replicate 5 0xEE))
    (coded_lines [] at_3 one_lent)
unfolding outcome
with_codes = delivers (released 4) (coded_lines [] at_3 one_lent) refl refl refl refl

-- With two (W2) the second frame's first word stands in B.
pub with_codes_in_two :
    Delivers (released 5)
    (record { a = replicate 3 0xEE ++ (1 ∷ 2 ∷ 3 ∷ 0xFF ∷ 0 ∷ 4 ∷ 5 ∷ 6 ∷ 7 ∷ 8 ∷ 9 ∷ 10 ∷ []) ++ 0xEE ∷ []; b = 0xDD ∷ (11 ∷ 12 ∷ 13 ∷ 14 ∷ []) ++ replicate 5 0xDD })
    (coded_lines (two_buffers ∷ []) at_3_and_1 two_lent)
unfolding outcome
with_codes_in_two = delivers (released 5) (coded_lines (two_buffers ∷ []) at_3_and_1 two_lent) refl refl refl refl

-- The outcome of one run of n samples: k words are noted, s samples apart, and those that have not landed are held.
abbrev rest_held : ℕ → ℕ → ℕ → ℕ → List ℕ → Outcome
rest_held s n k landed held =
    record {
      met = true;
      distance = s;
      refusals = 0 ∷ [];
      moments = n + 3;
      samples = n;
      noted = every s (s + 2) k;
      completed = k;
      landed = landed;
      discarded = 0;
      held = held;
      overrun = false;
      error = false;
    }

-- Depth 1: from the first word's sample on, a grant at every s-th. It lands the word before, whose s samples are over: one sample less, and it is still held.
abbrev one_held : Outcome
one_held = rest_held 4 17 3 2 (0x60005 ∷ [])

pub depth_1 :
    Delivers one_held (only (1 ∷ 0 ∷ 2 ∷ 0 ∷ 3 ∷ 0 ∷ 4 ∷ 0 ∷ replicate 7 0xEE))
    (one_run 1 twelve_bits (periods 1 1 2 ++ periods 3 1 3))
unfolding outcome
depth_1 = delivers one_held (one_run 1 twelve_bits (periods 1 1 2 ++ periods 3 1 3)) refl refl refl refl

abbrev one_held_8 : Outcome
one_held_8 = rest_held 8 33 3 2 (0x0C0B0A09 ∷ [])

pub depth_1_8 :
    Delivers one_held_8 (only (1 ∷ 2 ∷ 3 ∷ 4 ∷ 5 ∷ 6 ∷ 7 ∷ 8 ∷ replicate 23 0xEE))
    (one_run 1 eight_bits (periods 1 1 6 ++ periods 3 1 7))
unfolding outcome
depth_1_8 = delivers one_held_8 (one_run 1 eight_bits (periods 1 1 6 ++ periods 3 1 7)) refl refl refl refl

-- Depth 32: the 32 samples that grant stand in every 128. Of 32 words 25 are held at the end.
abbrev grants_first : Scenario
grants_first = one_run 32 twelve_bits (periods 1 32 96)

abbrev last_25 : List ℕ
last_25 = 0x10000F ∷ 0x120011 ∷ 0x140013 ∷ 0x160015 ∷ 0x180017 ∷ 0x1A0019 ∷ 0x1C001B ∷ 0x1E001D ∷ 0x20001F ∷ 0x220021 ∷ 0x240023 ∷ 0x260025 ∷ 0x280027 ∷ 0x2A0029 ∷ 0x2C002B ∷ 0x2E002D ∷ 0x30002F ∷ 0x320031 ∷ 0x340033 ∷ 0x360035 ∷ 0x380037 ∷ 0x3A0039 ∷ 0x3C003B ∷ 0x3E003D ∷ 0x40003F ∷ []

abbrev first_7 : List ℕ
first_7 = 1 ∷ 0 ∷ 2 ∷ 0 ∷ 3 ∷ 0 ∷ 4 ∷ 0 ∷ 5 ∷ 0 ∷ 6 ∷ 0 ∷ 7 ∷ 0 ∷ 8 ∷ 0 ∷ 9 ∷ 0 ∷ 10 ∷ 0 ∷ 11 ∷ 0 ∷ 12 ∷ 0 ∷ 13 ∷ 0 ∷ 14 ∷ 0 ∷ []

abbrev many_held : Outcome
many_held = rest_held 4 130 32 7 last_25

pub depth_32 : Delivers many_held (only (first_7 ++ replicate 100 0xEE)) grants_first
unfolding outcome
depth_32 = delivers many_held grants_first refl refl refl refl

-- Two buffers (W2), set before ENABLE rises; a mode change after it is refused. At 12 bits a frame of two words goes to A and one of one word to B. A frame of one datum completes no word, and so does not
-- switch: the next goes to A, and its first word lands on that of the first frame; its second is still held. Runs and single samples over one memory are refused, and so are those that start beyond A or beyond B, and a bit above
-- 17; an empty run may start elsewhere.
abbrev pub in_turn : Scenario
in_turn =
    record {
      depth = usual_depth;
      set_up_calls = two_buffers ∷ a_write 0 0x48E1 (omega arith) ∷ one_buffer ∷ [];
      calls =
          a_run at_3_and_1 (clocked (0xC000 ∷ 1 ∷ 2 ∷ 3 ∷ 4 ∷ 0xC000 ∷ [])) ∷
          a_run at_3 (clocked (5 ∷ [])) ∷
          a_run (two_memories 14 1) (clocked (5 ∷ [])) ∷
          a_run at_3_and_1 (granting (clocked (5 ∷ 6 ∷ []))) ∷
          a_sample at_3 0x0C000 ∷
          a_sample (two_memories 3 8) 0x0C000 ∷
          map (a_sample at_3_and_1) (clocked (0xC000 ∷ [])) ++
          a_run (two_memories 13 7) [] ∷
          a_run at_3_and_1 (clocked (7 ∷ 0xC000 ∷ 8 ∷ 9 ∷ [])) ∷
          a_run at_3_and_1 (granting (clocked (10 ∷ [])) ++ 0x40000 ∷ []) ∷
          a_run at_3_and_1 (granting (clocked (10 ∷ []))) ∷
          map (a_sample at_3_and_1) (clocked (11 ∷ []));
      lent = record { a = record { memory = replicate 13 0xEE; start = 3 }; b = record { memory = replicate 7 0xDD; start = 1 } };
    }

abbrev two_landed : Outcome
two_landed =
    record {
      met = true;
      distance = 4;
      refusals = 0 ∷ 16 ∷ 9 ∷ 0 ∷ 16 ∷ 9 ∷ 0 ∷ 0 ∷ 0 ∷ 0 ∷ 7 ∷ 0 ∷ 0 ∷ 0 ∷ [];
      moments = 4 + 30 + 14;
      samples = 30;
      noted = 6 ∷ 10 ∷ 16 ∷ 26 ∷ 30 ∷ [];
      completed = 5;
      landed = 4;
      discarded = 0;
      held = 0xB000A ∷ [];
      overrun = false;
      error = false;
    }

pub with_two_buffers :
    Delivers two_landed
    (record { a = replicate 3 0xEE ++ (8 ∷ 0 ∷ 9 ∷ 0 ∷ 3 ∷ 0 ∷ 4 ∷ 0 ∷ []) ++ replicate 2 0xEE; b = 0xDD ∷ (5 ∷ 0 ∷ 6 ∷ 0 ∷ []) ++ replicate 2 0xDD })
    in_turn
unfolding outcome
with_two_buffers = delivers two_landed in_turn refl refl refl refl

-- The buffers and numbers of its words.
abbrev turn : Buffer → ℕ → Turn
turn u n = record { buffer = u; number = n }

pub turns : map (λ n. n.turn) (noted_by in_turn 30) ≡ turn A 0 ∷ turn A 1 ∷ turn B 0 ∷ turn A 0 ∷ turn A 1 ∷ []
unfolding outcome
turns = refl

-- Without runs and samples there are moments too: CR at reset, and after each of three writes. The second, of CWSTRT with ENABLE 1, is refused.
abbrev pub set_up_alone : Scenario
set_up_alone =
    record {
      depth = usual_depth;
      set_up_calls = twelve_bits ∷ a_write 0x20 1 (omega arith) ∷ a_write 0 0x08E2 (omega arith) ∷ [];
      calls = [];
      lent = alone 0 [];
    }

pub moments_alone : map (λ m. m.board.device.core.capture.registers.cr) (all_moments set_up_alone) ≡ 0 ∷ 0x48E3 ∷ 0x48E3 ∷ 0x08E2 ∷ []
unfolding outcome
moments_alone = refl
