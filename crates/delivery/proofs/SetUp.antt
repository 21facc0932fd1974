-- While a board of any depth (W9) is set up, from reset, nothing is sampled, held or counted, the capture state is what the register rules alone make, with RIS still 0, and the mode (W2) the one last set
-- while ENABLE was 0: before the set-up calls, after each and after all. Assumes nothing.
use mathlib.Core.Bool.{Bool, true, false, cond}
use mathlib.Core.List.{List, [], ◌∷◌}
use mathlib.Core.Path.{◌≡◌, refl, ◌∙◌}
use Prim.Native.Nat.{ℕ}
use native.Mathlib.Omega.{arith}
use lib.Dec.{eqb}
use Rattle.registers.specs.Map.{register_at}
use Rattle.std.specs.Prelude.{Option, Some, None}
use Rattle.refusals.specs.Refusals.{first}
use Rattle.buffers.specs.Turns as turn_rules
use Rattle.output.specs.Output.{OutputState, with_held, holding, with_place, fresh_output, with_counts, count_discarded, discard}
use Rattle.output.specs.WellFormed.{bad_depth}
use Rattle.rules.specs.declared.Capture.{Capture}
use Rattle.rules.specs.declared.Device.{Device}
use Rattle.rules.specs.State.{device, fresh_capture, fresh_of}
use Rattle.rules.specs.Capture.{enabled}
use Rattle.rules.specs.RegisterCalls.{disables, register_tests, write_refusal, write_register, write_at, write, rearmed}
use Rattle.rules.specs.RegisterCalls as register_rules
use Rattle.rules.specs.WellFormed.{excluded, malformed}
use Rattle.rules.proofs.WellFormed.{facts}
use Rattle.bits.proofs.Booleans.{either}
use Rattle.laws.proofs.Flags.{write_flags}
use Rattle.laws.proofs.Keeps.{fresh_well_formed}
use Rattle.laws.proofs.KeepsWrites.{write_keeps}
use Rattle.board_rules.specs.declared.Mode.{Mode}
use Rattle.board_rules.specs.declared.Mode.TheVariants.{One, Two}
use Rattle.board_rules.specs.declared.Board.{Board}
use Rattle.board_rules.specs.State.{bad_turns}
use Rattle.board_rules.specs.State as board_state
use Rattle.board_rules.specs.BoardCalls as board_calls
use Rattle.delivery.specs.Calls.{SetUpCall, a_write, one_buffer, two_buffers, after_set_up, after_set_ups}
use Rattle.registers.specs.declared.Register.{Register}
use Rattle.delivery.specs.Noted.{write_found, noted_write, Configured, with_mode, noted_set_up, noted_set_ups}

module _ (depth : ℕ) where
  -- The effect of a write. Where ENABLE falls, no word is held, and none is discarded.
  write_at_is : (r : Option Register) (v : ℕ) (s : Capture) → write_at (device s (fresh_output depth)) r v ≡ device (write_found r v s) (fresh_output depth)
  unfolding write_at write_found discard fresh_output holding with_held count_discarded with_counts
  write_at_is None v s = refl
  write_at_is (Some r) v s =
      either (λ (x : OutputState). device (write_register r v s) x ≡ device (write_register r v s) (fresh_output depth)) (disables s.registers.cr r v) refl refl

  -- A write, accepted or refused: of a well-formed device the register tests alone refuse it.
  write_is : (s : Capture) (offset v : ℕ) → malformed (device s (fresh_output depth)) ≡ false
      → (write (device s (fresh_output depth)) offset v).device ≡ device (noted_write s offset v) (fresh_output depth)
  unfolding write write_refusal noted_write
  write_is s offset v formed = rw formed (go (eqb (first (register_tests s.registers.cr (register_at offset) v)) 0))
    where
      r : Option Register
      r = register_at offset

      d : Device
      d = device s (fresh_output depth)

      go : (b : Bool) → cond b (write_at d r v) d ≡ device (cond b (write_found r v s) s) (fresh_output depth)
      go true = write_at_is r v s
      go false = refl

-- RIS stays 0: of the writes ICR alone changes it, and it only clears.
abbrev NoFlag : Capture → Type 0
NoFlag s = s.registers.ris ≡ 0

found_flag : (r : Option Register) (v : ℕ) (s : Capture) → NoFlag s → NoFlag (write_found r v s)
unfolding write_found
found_flag None v s h = h
found_flag (Some r) v s h = write_flags (λ x. x ≡ 0) (λ x y e. omega arith) v s h r

write_flag : (s : Capture) (offset v : ℕ) → NoFlag s → NoFlag (noted_write s offset v)
unfolding noted_write
write_flag s offset v h =
    either NoFlag (eqb (first (register_tests s.registers.cr (register_at offset) v)) 0) (found_flag (register_at offset) v s h) h

-- The mode while a board is set up: no word has come.
abbrev pub mode_of : Bool → Mode
mode_of two = cond two (Two turn_rules.fresh_turns) One

abbrev in_mode : Bool → Device → Board
in_mode two d = record { device = d; mode = mode_of two }

-- The board with this capture state and mode.
abbrev pub ready : ℕ → Configured → Board
ready depth c = in_mode c.two (device c.capture (fresh_output depth))

board_formed : (depth : ℕ) (s : Capture) (two : Bool) → malformed (device s (fresh_output depth)) ≡ false
    → board_state.malformed (ready depth (record { capture = s; two = two })) ≡ false
unfolding board_state.malformed bad_turns fresh_output holding with_held turn_rules.fresh_turns
board_formed depth s true e = rw e
board_formed depth s false e = rw e

-- A write leaves the mode, whether or not ENABLE falls.
mode_stays : (falls two : Bool) → board_calls.mode_after falls (mode_of two) ≡ mode_of two
unfolding board_calls.mode_after turn_rules.discarded turn_rules.with_turn turn_rules.with_tags turn_rules.fresh_turns
mode_stays true true = refl
mode_stays false true = refl
mode_stays falls false = refl

board_write : (d : Device) (two : Bool) (offset v : ℕ) → board_state.malformed (in_mode two d) ≡ false
    → (board_calls.write (in_mode two d) offset v).board ≡ in_mode two (write d offset v).device
unfolding board_calls.write write
board_write d two offset v formed = rw formed (go (eqb (write_refusal d offset v) 0))
  where
    d' : Device
    d' = write_at d (register_at offset) v

    go : (b : Bool)
        → ◌≡◌ {A = Board} (cond b (record { device = cond b d' d; mode = board_calls.mode_after (board_calls.disabled d (cond b d' d)) (mode_of two) }) (in_mode two d))
        (in_mode two (cond b d' d))
    go true = rw mode_stays
    go false = refl

-- A mode change. Nothing is to be re-armed.
board_mode : (depth : ℕ) (c : Configured) (two : Bool) → board_state.malformed (ready depth c) ≡ false
    → (board_calls.set_mode (mode_of two) (ready depth c)).board ≡ ready depth (with_mode two c)
unfolding board_calls.set_mode rearmed with_place fresh_output holding with_held with_mode
board_mode depth c two formed = rw formed (go (enabled c.capture))
  where
    go : (b : Bool)
        → cond (eqb (cond b 6 0) 0) (in_mode two (device c.capture (fresh_output depth))) (ready depth c)
        ≡ ready depth (record { capture = c.capture; two = cond b c.two two })
    go true = refl
    go false = refl

-- The board b while it is set up, with its depth, capture state and mode.
pub record Ready (depth : ℕ) (c : Configured) (b : Board) : Type 0 where
  pub is : b ≡ ready depth c
  pub formed : malformed (device c.capture (fresh_output depth)) ≡ false
  pub no_flag : NoFlag c.capture

pub one_ready : {depth : ℕ} (c : Configured) (b : Board) (x : SetUpCall) → Ready depth c b → Ready depth (noted_set_up c x) (after_set_up b x)
unfolding noted_set_up after_set_up
one_ready {depth} c b (a_write offset v fits) r =
    let whole = write_is depth c.capture offset v r.formed in
    record {
      is = rw r.is (board_write _ c.two offset v (board_formed depth c.capture c.two r.formed) ∙ rw whole);
      formed = rw (← whole) (write_keeps _ offset v fits r.formed);
      no_flag = write_flag c.capture offset v r.no_flag;
    }
one_ready {depth} c b one_buffer r =
    record {
      is = rw r.is (board_mode depth c false (board_formed depth c.capture c.two r.formed));
      formed = unfold with_mode in r.formed;
      no_flag = unfold with_mode in r.no_flag;
    }
one_ready {depth} c b two_buffers r =
    record {
      is = rw r.is (board_mode depth c true (board_formed depth c.capture c.two r.formed));
      formed = unfold with_mode in r.formed;
      no_flag = unfold with_mode in r.no_flag;
    }

all_ready : {depth : ℕ} (c : Configured) (b : Board) (xs : List SetUpCall) → Ready depth c b → Ready depth (noted_set_ups c xs) (after_set_ups b xs)
unfolding noted_set_ups after_set_ups
all_ready c b [] r = r
all_ready c b (x ∷ xs) r = all_ready (noted_set_up c x) (after_set_up b x) xs (one_ready c b x r)

-- At reset.
abbrev pub at_reset : ℕ → Configured
at_reset depth = record { capture = (fresh_of depth).core.capture; two = false }

module _ (depth : ℕ) (sound : bad_depth depth ≡ false) where
  -- The board that the claim begins with is the one that is made, without a refusal.
  pub is_made : board_calls.made depth ≡ record { number = 0; board = board_calls.fresh_of depth }
  unfolding board_calls.made register_rules.made
  is_made = rw sound

  pub fresh_ready : Ready depth (at_reset depth) (board_calls.fresh_of depth)
  unfolding fresh_of fresh_capture
  fresh_ready = record { is = refl; formed = fresh_well_formed depth sound; no_flag = refl }

  pub set_up_ready : (xs : List SetUpCall) → Ready depth (noted_set_ups (at_reset depth) xs) (after_set_ups (board_calls.fresh_of depth) xs)
  set_up_ready xs = all_ready _ _ xs fresh_ready

  -- Its CR is one that is accepted.
  pub set_up_allowed : (xs : List SetUpCall) → excluded (noted_set_ups (at_reset depth) xs).capture.registers ≡ false
  set_up_allowed xs = (facts _ (set_up_ready xs).formed).capture.allowed
