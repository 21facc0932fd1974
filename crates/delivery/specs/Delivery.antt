-- Demand 3, as document 01's last section spells it out, over the depth d and the spacing s (W9) and both buffer modes (W2): its premises and its promises.
use Rattle.std.specs.Prelude.{Bool, true, false, cond, ◌&&◌, List, [], ◌∷◌, ◌++◌, map, ◌≡◌, ℕ, ◌+◌, ◌*◌, ◌≤◌, ◌<◌, eqb, length, take, drop, None, Some}
use Rattle.bits.specs.Bits.{bit}
use Rattle.buffers.specs.declared.Buffer.{Buffer}
use Rattle.buffers.specs.Story.{same_buffer}
use Rattle.rules.specs.State.{output_of}
use Rattle.output.specs.Output.{bytes, contents}
use Rattle.output.specs.declared.Packing.{Packing as Packed}
use Rattle.samples.specs.Samples.{bus_grant}
use Rattle.output.specs.WellFormed.{bad_depth}
use Rattle.board_rules.specs.declared.Board.{Board}
use Rattle.board_rules.specs.TwoBuffers.{part}
use Rattle.board_rules.specs.BoardCalls.{fresh_of}
use Rattle.board_rules.specs.BoardRuns.{Both, lent, frame_buffer, memories}
use Rattle.delivery.specs.Calls.{SetUpCall, after_set_ups, boards, Starts, one_memory, two_memories, Call, starts_of, System, accepted, after_call, samples, Moment, moments}
use Rattle.delivery.specs.Noted.{Configured, noted_set_ups, first_turn, Noted, noted, words, noted_at, any_error, spacing}
use Rattle.delivery.specs.Placed.{standing_at, with_noted}

-- How many of some samples grant the bus.
unfoldable pub grants : List ℕ → ℕ
grants [] = 0
grants (w ∷ ws) = cond (bus_grant w) 1 0 + grants ws

-- Of every element of a list.
abbrev pub All : {A : Type 0} → (A → Type 0) → List A → Type 0
All P [] = Unit {0}
All P (x ∷ xs) = P x × All P xs

-- Everything that the claim is about: the depth that the device is made with (W9), the set-up calls from reset, the runs and single samples, and the memories first lent, each with its one start byte: that of the
-- accepted samples. With one buffer the memory is A.
pub record Scenario : Type 0 where
  pub depth : ℕ
  pub set_up_calls : List SetUpCall
  pub calls : List Call
  pub lent : Both

-- The bench after the set-up calls.
abbrev pub set_up : Scenario → System
set_up x = record { board = after_set_ups (fresh_of x.depth) x.set_up_calls; memories = memories x.lent }

-- The accepted samples of all calls.
abbrev pub trace : Scenario → List ℕ
trace x = samples (set_up x) x.calls

-- Capture state and mode after the set-up calls, by the register rules alone; the spacing that CR gives; and the words noted at the first n samples.
abbrev pub configured : Scenario → Configured
configured x = noted_set_ups (record { capture = (fresh_of x.depth).device.core.capture; two = false }) x.set_up_calls

abbrev pub distance : Scenario → ℕ
distance x = spacing (configured x).capture.registers.cr

abbrev pub noted_by : Scenario → ℕ → List Noted
noted_by x n = noted 0 (configured x).two (first_turn (configured x).two) (configured x).capture (take n (trace x))

-- The start byte that its samples have, or with two buffers the start bytes (W2).
abbrev pub starts_in : (two : Bool) → Both → Starts
starts_in true l = two_memories l.a.start l.b.start
starts_in false l = one_memory l.a.start

abbrev pub start_bytes : Scenario → Starts
start_bytes x = starts_in (configured x).two x.lent

-- Along some calls, each over what those before it leave: one that is accepted and brings samples has the start byte, or bytes, t. An empty run may have any, and so may a refused call.
abbrev pub OneStart : Starts → System → List Call → Type 0
OneStart t s [] = Unit {0}
OneStart t s (c ∷ cs) = (0 < length (accepted s c) → starts_of c ≡ t) × OneStart t (after_call s c) cs

-- A word's four bytes are there in its buffer.
abbrev pub Room : Scenario → Noted → Type 0
Room x w = 4 * w.turn.number + 4 ≤ length (frame_buffer (lent w.turn.buffer x.lent))

-- The premises on device, calls, memories and grants.
pub record Provided (x : Scenario) : Type 0 where
  -- W9: the device was made: depth 1 to 32, refusal 18 otherwise.
  pub made : bad_depth x.depth ≡ false
  -- The samples of accepted calls have one start byte, or with two buffers one in each memory (W2).
  pub one_start : OneStart (start_bytes x) (set_up x) x.calls
  -- The memories have room for every noted word, each in its buffer (W2).
  pub room : All (Room x) (noted_by x (length (trace x)))
  -- W9: every d·s consecutive accepted samples, counted across the calls, hold at least d bus grants.
  pub granted : (k : ℕ) → k + x.depth * distance x ≤ length (trace x) → x.depth ≤ grants (take (x.depth * distance x) (drop k (trace x)))

-- The premises.
pub record Premises (x : Scenario) : Type 0 where
  pub provided : Provided x
  -- W6: ERR rises at none of the accepted samples, as the noted words are: by the inputs alone.
  pub no_error : any_error (configured x).capture (trace x) ≡ false

-- How many words have landed at a moment.
abbrev pub landed_at : Moment → ℕ
landed_at m = m.board.device.core.output.counts.landed

-- Another word's bytes are not this one's: it has another buffer or number. In one frame no two words have the same.
abbrev pub Elsewhere : Noted → Noted → Type 0
Elsewhere w v = same_buffer w.turn.buffer v.turn.buffer && eqb w.turn.number v.turn.number ≡ false

-- What is promised at a moment after n samples.
pub record Promised (x : Scenario) (m : Moment) : Type 0 where
  -- Overrun has never risen, and no word is lost.
  pub no_overrun : bit 1 m.board.device.core.capture.registers.ris ≡ false
  pub none_discarded : m.board.device.core.output.counts.discarded ≡ 0
  -- Completed is how many words are noted.
  pub completed : m.board.device.core.output.counts.completed ≡ length (noted_by x m.count)
  -- The first of them, as many as landed counts, stand at their bytes, stored in order, and every other byte is as first lent; in each memory (W2).
  pub in_memory : (u : Buffer) → part u m.memories ≡ with_noted u (lent u x.lent).start (take (landed_at m) (noted_by x m.count)) (lent u x.lent).memory
  -- The rest are held, in order.
  pub held : contents (output_of m.board.device) ≡ drop (landed_at m) (words (noted_by x m.count))
  pub split : landed_at m + m.board.device.core.output.held ≡ length (noted_by x m.count)
  -- W9: a word noted at sample t has landed if the samples have reached t + d·s.
  pub in_time :
      (before : List Noted) (w : Noted) (after : List Noted) → noted_by x m.count ≡ before ++ w ∷ after →
      w.sample + x.depth * distance x ≤ m.count → length before < landed_at m
  -- W2: a word that has landed stands at its bytes until a word of a later frame lands on them.
  pub stands :
      (before : List Noted) (w : Noted) (after : List Noted) → take (landed_at m) (noted_by x m.count) ≡ before ++ w ∷ after →
      All (Elsewhere w) after →
      take 4 (drop (standing_at (lent w.turn.buffer x.lent).start w) (part w.turn.buffer m.memories)) ≡ bytes w.word
  -- An accepted single sample says the word noted at it, or none, and never a lost one.
  pub answers : (p : Packed) → m.packed ≡ Some p → p ≡ noted_at m.count (noted_by x m.count)

-- A moment before the first sample: no word is said, and the memories are those first lent.
abbrev pub unsampled : Scenario → Board → Moment
unsampled x b = record { board = b; memories = memories x.lent; count = 0; packed = None }

-- The moments: of the fresh board and after each set-up call, then those of the runs and single samples.
abbrev pub all_moments : Scenario → List Moment
all_moments x = map (unsampled x) (boards (fresh_of x.depth) x.set_up_calls) ++ moments (set_up x) 0 x.calls

-- Demand 3: at every moment, after every call and after every sample inside an accepted run.
abbrev pub Delivery : Scenario → Type 0
Delivery x = Premises x → All (Promised x) (all_moments x)
