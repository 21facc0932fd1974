-- With one buffer demand 3 says what it said before W2 (`as_before`): one start byte, and room for all words behind it, are the premises, and the landed words stand one behind the other in A, the other memory being
-- left alone. The idea: with one buffer the noted words are numbered 0, 1, 2 and so on, all in A. Assumes nothing.
use mathlib.Core.Bool.{Bool, false}
use mathlib.Core.List.{List, [], ◌∷◌, ◌++◌, append_assoc, append-nil}
use Rattle.std.specs.Prelude.{Option, None, Some}
use mathlib.Core.Path.{◌≡◌, refl, sym, ap, subst, ◌∙◌}
use Prim.Native.Nat.{ℕ, zero, suc, ◌+◌, ◌-◌, ◌*◌, ◌≤◌}
use native.Mathlib.Nat.{add-zero}
use native.Mathlib.Omega.{arith}
use lib.ListN.{length, take, drop, length-append, length-drop, take-append-drop}
use lib.Seq.{append_snoc, length-take-le, take-length, take_at, drop_at, drop-drop}
use Rattle.buffers.specs.declared.Buffer.TheVariants.{A, B}
use Rattle.output.specs.Output.{all_bytes}
use Rattle.output.specs.WellFormed.{bad_depth}
use Rattle.landing.specs.Memory.{with_words}
use Rattle.landing.proofs.Buffer.{filled, filled_stored}
use Rattle.rules.specs.declared.Capture.{Capture}
use Rattle.rules.specs.Sample.{capture_sample, next_capture}
use Rattle.board_rules.specs.TwoBuffers.{part}
use Rattle.board_rules.specs.BoardRuns.{frame_buffer}
use Rattle.delivery.specs.Calls.{Starts, one_memory, Call, starts_of, System, after_call, Moment}
use Rattle.delivery.specs.Noted.{Turn, first_turn, word_turn, turn_after, next_turn, Noted, note, noted, words, any_error}
use Rattle.delivery.specs.Placed.{with_word, with_noted}
use Rattle.delivery.specs.Delivery.{grants, Scenario, set_up, trace, configured, distance, noted_by, OneStart, Room, Premises, landed_at, Promised, All, all_moments}
use Rattle.delivery.proofs.Alls.{all_first, all_map}
use Rattle.delivery.proofs.NotedNumbers.{noted_append}
use Rattle.delivery.proofs.Stored.{refilled_word}
use Rattle.delivery.proofs.Theorem.{delivery}

-- Words in A, numbered from k on.
abbrev pub in_a : ℕ → Turn
in_a k = record { buffer = A; number = k }

abbrev pub InLine : ℕ → List Noted → Type 0
InLine k [] = Unit {0}
InLine k (n ∷ ns) = (n.turn ≡ in_a k) × InLine (k + 1) ns

noted_in_line : (n k : ℕ) (s : Capture) (xs : List ℕ) → InLine k (noted n false (in_a k) s xs)
unfolding noted note word_turn turn_after next_turn
noted_in_line n k s [] = tt
noted_in_line n k s (w ∷ ws) = go (capture_sample s w).word (λ j. noted_in_line (n + 1) j (next_capture s w) ws)
  where
    go : (o : Option ℕ) → ((j : ℕ) → InLine j (noted (n + 1) false (in_a j) (next_capture s w) ws))
        → InLine k (note (n + 1) (word_turn false (in_a k)) o ++ noted (n + 1) false (turn_after false (in_a k) o) (next_capture s w) ws)
    go None rest = rest k
    go (Some v) rest = (refl, rest (k + 1))

take_in_line : (j k : ℕ) (ns : List Noted) → InLine k ns → InLine k (take j ns)
take_in_line zero k ns l = tt
take_in_line (suc j) k [] l = tt
take_in_line (suc j) k (n ∷ ns) l = (l.0, take_in_line j (k + 1) ns l.1)

-- Room behind the start byte for all of them is room for each.
room_in_line : (x : Scenario) (k : ℕ) (ns : List Noted) → InLine k ns → 4 * (k + length ns) ≤ length (frame_buffer x.lent.a) → All (Room x) ns
room_in_line x k [] l h = tt
room_in_line x k (n ∷ ns) l h = (rw l.0 (omega arith), room_in_line x (k + 1) ns l.1 (omega arith))

-- The words stored one after the other stand one behind the other.
module _ (start : ℕ) (m : List ℕ) where
  as_filled : (vs : List ℕ) → with_words start vs m ≡ take start m ++ filled vs (drop start m)
  unfolding with_words
  as_filled vs = rw (append_assoc, drop-drop)

  one_more : (vs : List ℕ) (v : ℕ) → start ≤ length m → with_word (start + 4 * length vs) v (with_words start vs m) ≡ with_words start (vs ++ v ∷ []) m
  one_more vs v fits =
      let front = length-take-le start m fits in
      let buffer = filled vs (drop start m) in
      let now = take start m ++ buffer in
      rw (as_filled vs, as_filled (vs ++ v ∷ []))
      (sym (refilled_word start (length vs) v now)
      ∙ rw (take_at (take start m) buffer start front, drop_at (take start m) buffer start front) (ap (λ (b : List ℕ). take start m ++ b) (filled_stored vs v (drop start m))))

  in-a-from : (vs : List ℕ) (ns : List Noted) → InLine (length vs) ns → start ≤ length m
      → with_noted A start ns (with_words start vs m) ≡ with_words start (vs ++ words ns) m
  unfolding with_noted
  in-a-from vs [] l fits = rw append-nil
  in-a-from vs (n ∷ ns) l fits =
      let next : length (vs ++ n.word ∷ []) ≡ length vs + 1 = rw length-append in
      rw (l.0, one_more vs n.word fits) (in-a-from (vs ++ n.word ∷ []) ns (rw next l.1) fits ∙ rw append_snoc)

  no_words : with_words start [] m ≡ m
  unfolding with_words all_bytes
  no_words = rw (append-nil, add-zero) (take-append-drop start m)

  in-b-none : (k : ℕ) (ns : List Noted) → InLine k ns → with_noted B start ns m ≡ m
  unfolding with_noted
  in-b-none k [] l = refl
  in-b-none k (n ∷ ns) l = rw l.0 (in-b-none (k + 1) ns l.1)

take_words : (k : ℕ) (ns : List Noted) → take k (words ns) ≡ words (take k ns)
take_words zero ns = refl
take_words (suc k) [] = refl
take_words (suc k) (n ∷ ns) = ap (λ (vs : List ℕ). n.word ∷ vs) (take_words k ns)

in_line : (x : Scenario) → (configured x).two ≡ false → (k : ℕ) → InLine 0 (noted_by x k)
in_line x one k =
    let s = (configured x).capture in
    subst (λ (two : Bool). InLine 0 (noted 0 two (first_turn two) s (take k (trace x)))) (sym one) (noted_in_line 0 0 s (take k (trace x)))

-- Where all calls have one start, as they had, the premise of one start is met, whichever of them are refused.
pub one_start_before : (t : Starts) (s : System) (cs : List Call) → All (λ c. starts_of c ≡ t) cs → OneStart t s cs
one_start_before t s [] same = tt
one_start_before t s (c ∷ cs) same = (λ Some. same.0, one_start_before t (after_call s c) cs same.1)

-- The premise of room, as it was.
pub room_before : (x : Scenario) → (configured x).two ≡ false → 4 * length (noted_by x (length (trace x))) ≤ length x.lent.a.memory - x.lent.a.start
    → All (Room x) (noted_by x (length (trace x)))
room_before x one h = room_in_line x 0 (noted_by x (length (trace x))) (in_line x one (length (trace x))) (rw length-drop (omega arith))

-- The promise of the memory, as it was; and the other memory.
pub record OneMemory (x : Scenario) (m : Moment) : Type 0 where
  pub in_memory : part A m.memories ≡ with_words x.lent.a.start (take (landed_at m) (words (noted_by x m.count))) x.lent.a.memory
  pub left_alone : part B m.memories ≡ x.lent.b.memory

-- Words in a line, stored each at its number, stand one behind the other.
pub line_memory : (x : Scenario) (ns : List Noted) → InLine 0 ns → All (Room x) ns
    → with_noted A x.lent.a.start ns x.lent.a.memory ≡ with_words x.lent.a.start (words ns) x.lent.a.memory
unfolding with_noted
line_memory x [] l rooms = sym (no_words x.lent.a.start x.lent.a.memory)
line_memory x (n ∷ ns) l rooms =
    let start = x.lent.a.start in
    let m = x.lent.a.memory in
    let here : 4 * 0 + 4 ≤ length (drop start m) = rw l.0 at rooms.0 in
    ap (with_noted A start (n ∷ ns)) (sym (no_words start m)) ∙ in-a-from start m [] (n ∷ ns) l (omega (arith, rw length-drop at here))

first_rooms : (x : Scenario) → All (Room x) (noted_by x (length (trace x))) → (k : ℕ) → All (Room x) (noted_by x k)
first_rooms x rooms k =
    let c = configured x in
    let all = noted 0 c.two (first_turn c.two) c.capture in
    let whole = ap all (sym (take-append-drop k (trace x))) ∙ noted_append 0 c.two (first_turn c.two) c.capture (take k (trace x)) (drop k (trace x)) in
    all_first (Room x) (noted_by x k) _ (rw whole at (rw take-length at rooms))

pub memory_before : (x : Scenario) → (configured x).two ≡ false → Premises x → (m : Moment) → Promised x m → OneMemory x m
memory_before x one p m q =
    let ns = noted_by x m.count in
    let k = landed_at m in
    let l = take_in_line k 0 ns (in_line x one m.count) in
    let rooms = all_first (Room x) (take k ns) (drop k ns) (rw take-append-drop (first_rooms x p.provided.room m.count)) in
    record {
      in_memory = q.in_memory A ∙ line_memory x (take k ns) l rooms ∙ rw take_words;
      left_alone = q.in_memory B ∙ in-b-none _ _ 0 (take k ns) l;
    }

-- The premises, as they were, and all that is promised.
pub as_before : (x : Scenario) → (configured x).two ≡ false → bad_depth x.depth ≡ false
    → OneStart (one_memory x.lent.a.start) (set_up x) x.calls
    → 4 * length (noted_by x (length (trace x))) ≤ length x.lent.a.memory - x.lent.a.start
    → ((k : ℕ) → k + x.depth * distance x ≤ length (trace x) → x.depth ≤ grants (take (x.depth * distance x) (drop k (trace x))))
    → any_error (configured x).capture (trace x) ≡ false
    → All (λ m. Promised x m × OneMemory x m) (all_moments x)
as_before x one made from room granted calm =
    let p : Premises x = record { provided = record { made = made; one_start = rw one from; room = room_before x one room; granted = granted }; no_error = calm } in
    all_map (Promised x) (λ m. Promised x m × OneMemory x m) (λ m q. (q, memory_before x one p m q)) (all_moments x) (delivery x p)
