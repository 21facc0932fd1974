-- W2, over every depth and every list of calls with one pair of memories and starts handed on: in mode two handing back answers what the history says (`handing_is_history`); where a frame is
-- complete the latest is handed back, and the part is the bytes of the words that it completed, in order (`handed_is_frame`).
-- The idea: held words and frame buffers are as the history's frames tell (CallsHold); a complete frame's words have all landed, so that all of them stand there. Assumes nothing.
use mathlib.Core.Bool.{Bool, true, false, cond, false≢true}
use mathlib.Core.List.{List, []}
use Rattle.std.specs.Prelude.{Option, None, Some}
use mathlib.Core.Path.{◌≡◌, refl, ap, sym, ◌∙◌, subst}
use Prim.Native.Nat.{ℕ, ◌-◌, ◌*◌, ◌≤◌}
use native.Mathlib.Omega.{arith}
use lib.Dec.{eqb}
use lib.ListN.{length, take, length-drop, length-take}
use lib.Seq.{take-length}
use borrow.Author.Tests.{le-ltb, eqb-true}
use Rattle.bits.proofs.Booleans.{and_true}
use Rattle.buffers.specs.declared.Buffer.{Buffer}
use Rattle.buffers.specs.declared.Buffer.TheVariants.{A, B}
use Rattle.buffers.specs.declared.Turns.{Turns}
use Rattle.buffers.specs.Turns.{latest_complete}
use Rattle.buffers.specs.Story as story
use Rattle.buffers.specs.Story.{Tale, completed, latest_in, which}
use Rattle.buffers.specs.Kept.{Kept, place_in}
use Rattle.buffers.proofs.Sights.{Sight, sight_of, sight_in}
use Rattle.buffers.proofs.Told.{Tells}
use Rattle.buffers.proofs.Found.{found_counts, latest_there}
use Rattle.refusals.specs.Refusals.{Answer, refused, answered, answer}
use Rattle.output.specs.Output.{contents, all_bytes}
use Rattle.output.specs.WellFormed.{bad_depth}
use Rattle.output.proofs.Bytes.{all_bytes_length}
use Rattle.rules.specs.declared.Device.{Device}
use Rattle.rules.specs.State.{output_of}
use Rattle.board_rules.specs.declared.Mode.{Mode}
use Rattle.board_rules.specs.declared.Mode.TheVariants.{One, Two}
use Rattle.board_rules.specs.declared.Board.{Board}
use Rattle.board_rules.specs.State.{is_two, kept_of, malformed}
use Rattle.board_rules.specs.BoardCalls as board_calls
use Rattle.board_rules.specs.BoardRuns.{Both, frame_buffer, lent, buffers, turns_of}
use Rattle.board_rules.specs.HandingBack.{span_of, spans, handing_refusal, handed_from, handed_latest, latest_frame, hand_back, handed_part}
use Rattle.board_rules.specs.declared.Handed.{Handed}
use Rattle.board_rules.specs.declared.Handed.TheVariants.{FrameIn as frame_in}
use Rattle.board_rules.specs.TwoBuffers.{part}
use Rattle.board_laws.specs.BoardHistories.{Call}
use Rattle.board_laws.specs.Handing.{Bare, calls, board_after, memories_after, frames_after, frame_handed, to_hand}
use Rattle.board_laws.proofs.BoardConservation.{fresh_board_well, never_malformed}
use Rattle.board_laws.proofs.CompleteFrames as complete_frames
use Rattle.board_laws.proofs.InBuffers.{Stands, Holds}
use Rattle.board_laws.proofs.SampleHolds.{tells_of}
use Rattle.board_laws.proofs.CallsHold.{off, Shows, calls_show}

-- Of a complete frame: it is in its buffer, its words have all landed since the last re-arming, and stand there from the first byte on.
module _ (k : Kept) (fs : List Tale) (t : Tells k fs) (f : Tale) (is : latest_in fs ≡ Some f) where
  here : story.frame_in f.buffer fs ≡ Some f
  here = (latest_there fs f is).0

  all_since : f.since ≡ completed f
  all_since = eqb-true f.since (completed f) (and_true f.ended (eqb f.since (completed f)) (latest_there fs f is).1).1

  place_told : (u : Buffer) → place_in u k ≡ (sight_in u fs).place
  place_told A = ap (λ (x : Sight). x.place) t.in_a
  place_told B = ap (λ (x : Sight). x.place) t.in_b

  all_placed : place_in f.buffer k ≡ completed f
  all_placed = place_told f.buffer ∙ ap (λ (o : Option Tale). (sight_of o).place) here ∙ all_since

  all_stand : (m : List ℕ) → Stands m (story.frame_in f.buffer fs) → take (4 * completed f) m ≡ all_bytes f.words
  all_stand m h =
      let c = found_counts f.buffer fs f t.sound here in
      let all : f.landed ≡ completed f = omega (arith, c.recent, c.part, all_since) in
      let now = subst (Stands m) here h (omega (arith, all, all_since)) in
      ap (λ (n : ℕ). take (4 * n) m) (sym all) ∙ now ∙ ap (λ (n : ℕ). all_bytes (take n f.words)) all ∙ ap all_bytes (take-length f.words)

  long_enough : (m : List ℕ) → Stands m (story.frame_in f.buffer fs) → 4 * completed f ≤ length m
  long_enough m h = omega (arith, ap length (all_stand m h), all_bytes_length f.words, length-take (4 * completed f) m)

-- The answer of a board in mode two, by the frames told.
by_buffer : (u : Buffer) (l : Both) → part u (buffers l) ≡ frame_buffer (lent u l)
by_buffer A l = refl
by_buffer B l = refl

by_span : (u : Buffer) (l : Both) → length (frame_buffer (lent u l)) ≡ (span_of u (spans l)).length - (span_of u (spans l)).start
by_span A l = length-drop l.a.start l.a.memory
by_span B l = length-drop l.b.start l.b.memory

module _ (d : Device) (t : Turns) (l : Both) (fs : List Tale) (told : Tells (kept_of d t) fs) (h : Holds (contents (output_of d)) (buffers l) fs) where
  stands_there : (f : Tale) → Stands (frame_buffer (lent f.buffer l)) (story.frame_in f.buffer fs)
  stands_there f = subst (λ (m : List ℕ). Stands m (story.frame_in f.buffer fs)) (by_buffer f.buffer l) (h.stands f.buffer)

  latest_handed : (o : Option Tale) → latest_in fs ≡ o → handed_latest (which o) d t (spans l) ≡ frame_handed o
  unfolding which handed_latest handed_from frame_handed
  latest_handed None is = refl
  latest_handed (Some f) is =
      let long = long_enough (kept_of d t) fs told f is (frame_buffer (lent f.buffer l)) (stands_there f) in
      let s = span_of f.buffer (spans l) in
      rw (all_placed (kept_of d t) fs told f is, le-ltb (s.length - s.start) (4 * completed f) (omega (arith, by_span f.buffer l)))

  latest_part : (f : Tale) → latest_in fs ≡ Some f → handed_part (answered (frame_in f.buffer (4 * completed f))) l ≡ all_bytes f.words
  unfolding handed_part
  latest_part f is = all_stand (kept_of d t) fs told f is (frame_buffer (lent f.buffer l)) (stands_there f)

-- A start beyond its memory is refused 9; else the answer is of the latest complete frame kept.
answer_two : (d : Device) (t : Turns) (l : Both) → malformed (record { device = d; mode = Two t }) ≡ false
    → hand_back (record { device = d; mode = Two t }) l ≡ cond (off l) (refused 9) (answered (handed_latest (latest_complete t) d t (spans l)))
unfolding latest_frame handing_refusal turns_of
answer_two d t l e = rw e (go (off l))
  where
    go : (b : Bool) → answer (cond b 9 0) (handed_latest (latest_complete t) d t (spans l)) ≡ cond b (refused 9) (answered (handed_latest (latest_complete t) d t (spans l)))
    go true = refl
    go false = refl

in_mode : {P : Type 0} (x : Mode) → is_two x ≡ true → ((t : Turns) → x ≡ Two t → P) → P
in_mode One e p = absurd (false≢true e)
in_mode (Two t) e p = p t refl

none_complete : (f : Tale) → latest_in [] ≡ Some f → ⊥
unfolding latest_in
none_complete f e = let z : ◌≡◌ {A = ℕ} 0 1 = cc in omega arith

-- From a board made with a depth from 1 to 32, in mode two.
module _ (depth : ℕ) (sound : bad_depth depth ≡ false) (l : Both) (qs : List Bare) where
  abbrev b : Board
  b = board_after depth l qs

  abbrev m : Both
  m = memories_after depth l qs

  abbrev fs : List Tale
  fs = frames_after depth l qs

  abbrev cs : List Call
  cs = calls (board_calls.fresh_of depth) l qs

  shown : (t : Turns) → b.mode ≡ Two t → Shows b.device (Two t) m fs
  shown t two =
      subst (λ (mode : Mode). Shows b.device mode m fs) two (calls_show (board_calls.fresh_of depth) l qs [] (fresh_board_well depth sound) tt tt)

  told : (t : Turns) → b.mode ≡ Two t → Tells (kept_of b.device t) fs
  told t two = tells_of (complete_frames.explained depth sound cs t two)

  in_two : (t : Turns) → b.mode ≡ Two t → hand_back b m ≡ to_hand m (latest_in fs)
  unfolding to_hand
  in_two t two =
      let x : Board = record { device = b.device; mode = Two t } in
      let as_two : b ≡ x = λ i. record { device = b.device; mode = two i } in
      ap (λ (y : Board). hand_back y m) as_two
      ∙ answer_two b.device t m (subst (λ (y : Board). malformed y ≡ false) as_two (never_malformed depth sound cs))
      ∙ ap (λ (o : Option Buffer). cond (off m) (refused 9) (answered (handed_latest o b.device t (spans m)))) (complete_frames.latest_frame depth sound cs t two)
      ∙ ap (λ (x : Handed). cond (off m) (refused 9) (answered x)) (latest_handed b.device t m fs (told t two) (shown t two).0 (latest_in fs) refl)

  -- Where a frame is complete no start is beyond its memory.
  inside : (t : Turns) → b.mode ≡ Two t → (f : Tale) → latest_in fs ≡ Some f → off m ≡ false
  inside t two f is = go (off m) refl
    where
      go : (away : Bool) → off m ≡ away → away ≡ false
      go true o = absurd (none_complete f (ap latest_in (sym ((shown t two).1 o)) ∙ is))
      go false o = refl

  answer_of : (t : Turns) → b.mode ≡ Two t → (f : Tale) → latest_in fs ≡ Some f → hand_back b m ≡ answered (frame_in f.buffer (4 * completed f))
  unfolding to_hand frame_handed
  answer_of t two f is = in_two t two ∙ rw (inside t two f is, is)

  -- Handing back answers what the history says.
  pub handing_is_history : is_two b.mode ≡ true → hand_back b m ≡ to_hand m (latest_in fs)
  handing_is_history two = in_mode b.mode two in_two

  -- Where a frame is complete the latest is handed back, and the part is the bytes of the words that it completed, in order.
  pub handed_is_frame : is_two b.mode ≡ true → (f : Tale) → latest_in fs ≡ Some f
      → (hand_back b m ≡ answered (frame_in f.buffer (4 * completed f))) × (handed_part (hand_back b m) m ≡ all_bytes f.words)
  handed_is_frame two f is =
      in_mode b.mode two
      (λ t at. (
        answer_of t at f is,
        ap (λ (a : Answer Handed). handed_part a m) (answer_of t at f is) ∙ latest_part b.device t m fs (told t at) (shown t at).0 f is,
      ))
