-- Every list of calls on a board made with a depth, in any order, over one memory or two (W2), each with whatever memories and starts it is lent. A refused call changes nothing. And
-- what happened in such a list, in order, from the calls' answers and the capture rules: from that the frames are told (crate `buffers`, Story), without the state that is kept for them.
use Rattle.std.specs.Prelude.{cond, List, [], ◌∷◌, ◌++◌, map, ℕ, ◌<◌, ◌^◌, eqb, drop, Option, None, Some}
use Rattle.buffers.specs.Story as story
use Rattle.rules.specs.State.{capture_of}
use Rattle.board_rules.specs.declared.Board.{Board}
use Rattle.board_rules.specs.TwoBuffers.{sample_events, Two, two_step}
use Rattle.board_rules.specs.declared.Landing.{Landing}
use Rattle.board_rules.specs.BoardCalls as board_calls
use Rattle.board_rules.specs.BoardRuns as board_runs
use Rattle.board_rules.specs.BoardRuns.{Both}
use Rattle.laws.specs.Histories as device_histories

-- A call. The value of a write is a 32-bit number.
pub data Call : Type 0 where
  a_write : (offset value : ℕ) → value < 2 ^ 32 → Call
  a_rearming : Call
  one_buffer : Call
  two_buffers : Call
  a_run : (memory : List ℕ) (start : ℕ) (samples : List ℕ) → Call
  a_sample : (memory : List ℕ) (start w : ℕ) → Call
  a_run_two : (lent : Both) (samples : List ℕ) → Call
  a_sample_two : (lent : Both) (w : ℕ) → Call

-- The board that a call leaves.
unfoldable pub after : Board → Call → Board
after b (a_write offset value fits) = (board_calls.write b offset value).board
after b a_rearming = (board_calls.rearm b).board
after b one_buffer = (board_calls.one_buffer b).board
after b two_buffers = (board_calls.two_buffers b).board
after b (a_run memory start samples) = (board_runs.run b memory start samples).board
after b (a_sample memory start w) = (board_runs.sample b memory start w).board
after b (a_run_two lent samples) = (board_runs.run_two b lent samples).board
after b (a_sample_two lent w) = (board_runs.sample_two b lent w).board

unfoldable pub after_all : Board → List Call → Board
after_all b [] = b
after_all b (c ∷ cs) = after_all (after b c) cs

abbrev pub reached : ℕ → List Call → Board
reached depth cs = after_all (board_calls.fresh_of depth) cs

-- What happened: an accepted sample, or ENABLE going from 1 to 0, as the device's histories have them; re-arming; the mode set, to either.
pub data Happening : Type 0 where
  on_device : device_histories.Event → Happening
  rearmed : Happening
  mode_set : Happening

-- The samples of a run over two memories.
abbrev pub landing_byte : Option Landing → Option ℕ
landing_byte None = None
landing_byte (Some l) = Some l.byte

unfoldable pub two_samplings : Two → List ℕ → List device_histories.Event
two_samplings x [] = []
two_samplings x (w ∷ ws) =
    let r = two_step x w in
    device_histories.sampled (capture_of x.device) w (landing_byte r.landing) r.packed ∷ two_samplings r.after ws

-- Those of a call. A refused one has none.
unfoldable pub samplings_of : Board → Call → List device_histories.Event
samplings_of b (a_write offset value fits) = []
samplings_of b a_rearming = []
samplings_of b one_buffer = []
samplings_of b two_buffers = []
samplings_of b (a_run memory start samples) =
    cond (eqb (board_runs.one_refusal b memory start samples) 0) (device_histories.samplings b.device (drop start memory) samples) []
samplings_of b (a_sample memory start w) =
    cond (eqb (board_runs.one_refusal b memory start (w ∷ [])) 0) (device_histories.samplings b.device (drop start memory) (w ∷ [])) []
samplings_of b (a_run_two lent samples) =
    cond (eqb (board_runs.two_refusal b lent samples) 0) (two_samplings (board_runs.opened b lent) samples) []
samplings_of b (a_sample_two lent w) =
    cond (eqb (board_runs.two_refusal b lent (w ∷ [])) 0) (two_samplings (board_runs.opened b lent) (w ∷ [])) []

-- An accepted re-arming, or setting of the mode.
unfoldable pub changes_of : Board → Call → List Happening
changes_of b (a_write offset value fits) = []
changes_of b a_rearming = cond (eqb (board_calls.rearm b).number 0) (rearmed ∷ []) []
changes_of b one_buffer = cond (eqb (board_calls.one_buffer b).number 0) (mode_set ∷ []) []
changes_of b two_buffers = cond (eqb (board_calls.two_buffers b).number 0) (mode_set ∷ []) []
changes_of b (a_run memory start samples) = []
changes_of b (a_sample memory start w) = []
changes_of b (a_run_two lent samples) = []
changes_of b (a_sample_two lent w) = []

-- What happened at a call, and at a list of calls.
unfoldable pub device_events : Board → Call → List device_histories.Event
device_events b c = samplings_of b c ++ device_histories.disabling_of b.device (after b c).device

unfoldable pub happenings : Board → Call → List Happening
happenings b c = map on_device (device_events b c) ++ changes_of b c

unfoldable pub happenings_of_all : Board → List Call → List Happening
happenings_of_all b [] = []
happenings_of_all b (c ∷ cs) = happenings b c ++ happenings_of_all (after b c) cs

abbrev pub history : ℕ → List Call → List Happening
history depth cs = happenings_of_all (board_calls.fresh_of depth) cs

-- The device's events among them.
unfoldable pub events : List Happening → List device_histories.Event
events [] = []
events (on_device e ∷ hs) = e ∷ events hs
events (rearmed ∷ hs) = events hs
events (mode_set ∷ hs) = events hs

-- The frames since the mode was set last, newest first: told by what happened alone.
unfoldable pub frame_events : device_histories.Event → List story.Event
frame_events (device_histories.sampled found w landing packed) = sample_events found w landing packed
frame_events device_histories.disabled = story.discarded ∷ []

unfoldable pub tell : List story.Tale → Happening → List story.Tale
tell fs (on_device e) = story.story fs (frame_events e)
tell fs rearmed = story.tell fs story.rearmed
tell fs mode_set = []

unfoldable pub tell_all : List story.Tale → List Happening → List story.Tale
tell_all fs [] = fs
tell_all fs (h ∷ hs) = tell_all (tell fs h) hs

abbrev pub frames : List Happening → List story.Tale
frames hs = tell_all [] hs
