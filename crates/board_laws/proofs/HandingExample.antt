-- A list of calls as the law of handing back has them, computed: a run over A in mode one, setting the mode, a refused call, a frame lost by an overrun, one whose two words land in B,
-- its end; then re-arming. Assumes nothing.
use mathlib.Core.Bool.{true, false}
use mathlib.Core.List.{List, [], ◌∷◌, ◌++◌}
use Rattle.std.specs.Prelude.{None, Some}
use mathlib.Core.Path.{◌≡◌, refl}
use native.Mathlib.Omega.{arith}
use Rattle.buffers.specs.declared.Buffer.TheVariants.{B}
use Rattle.buffers.specs.Story as story
use Rattle.buffers.specs.Story.{Tale, latest_in}
use Rattle.rules.proofs.BenchSheet.{CR, edges, blank}
use Rattle.laws.specs.Histories as device_histories
use Rattle.board_rules.specs.HandingBack.{hand_back, handed_part}
use Rattle.board_rules.proofs.BuffersSheet.{every_board_rule, usual, pixels}
use Rattle.board_laws.specs.BoardHistories as board_histories
use Rattle.board_laws.specs.Handing.{Bare, a_write, a_rearming, two_buffers, a_run, a_sample, a_run_two, a_sample_two, over, memories_left, calls, memories_left_by, board_after, memories_after, frames_after}

-- At depth 2: the frame's third word is lost.
unfoldable pub lost_then_two : List Bare
lost_then_two =
    a_run (edges (1 ∷ [])) ∷
    two_buffers ∷
    a_write CR 0x48E1 (omega arith) ∷
    a_sample 0 ∷
    a_run_two (edges (blank ∷ 1 ∷ 2 ∷ 3 ∷ 4 ∷ 5 ∷ 6 ∷ [])) ∷
    a_run_two (edges (blank ∷ 7 ∷ 8 ∷ 9 ∷ 10 ∷ [])) ∷
    a_sample_two 0x2C000 ∷
    a_sample_two 0x2C000 ∷
    a_run_two (edges (blank ∷ [])) ∷
    []

abbrev pub second : Tale
second = record { buffer = B; words = 0x80007 ∷ 0xA0009 ∷ []; landed = 2; since = 2; ended = true; gone = false }

pub example : (latest_in (frames_after 2 usual lost_then_two) ≡ Some second)
    × (handed_part (hand_back (board_after 2 usual lost_then_two) (memories_after 2 usual lost_then_two)) (memories_after 2 usual lost_then_two) ≡ pixels 7 8 ++ pixels 9 10)
    × (latest_in (frames_after 2 usual (lost_then_two ++ a_rearming ∷ [])) ≡ None)
unfolding every_board_rule lost_then_two over memories_left calls memories_left_by board_histories.after board_histories.after_all board_histories.two_samplings board_histories.samplings_of board_histories.changes_of board_histories.device_events board_histories.happenings board_histories.happenings_of_all board_histories.frame_events board_histories.tell board_histories.tell_all device_histories.samplings device_histories.disabling_of story.any_waiting story.word_of story.landing_of story.ending_of story.tell story.story story.frame_in story.if_complete story.complete_in latest_in
example = (refl, refl, refl)
