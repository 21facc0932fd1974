-- What stands after the first of the accepted samples, in both modes (W2), while ERR has not risen (`standing`), and what one more makes of it (`more`). The idea: the output rules are read over a frame buffer of their
-- own, with room for all words, and land every word; where each one really lands is told beside that. Assumes nothing.
use mathlib.Core.Bool.{Bool, true, false, true≢false}
use mathlib.Core.List.{List, [], ◌∷◌, ◌++◌, append-nil}
use Rattle.std.specs.Prelude.{Option, None, Some}
use mathlib.Core.Path.{◌≡◌, refl, sym, ◌∙◌}
use Prim.Native.Nat.{ℕ, ◌+◌, ◌*◌, ◌≤◌}
use native.Mathlib.Omega.{arith}
use lib.Dec.{eqb, ltb}
use lib.ListN.{length, drop, replicate, length-replicate}
use lib.Seq.{append_snoc, take-length}
use borrow.Author.Tests.{eqb-false}
use Rattle.bits.specs.Bits.{bit}
use Rattle.bits.proofs.Booleans.{or_false}
use Rattle.buffers.specs.declared.Buffer.{Buffer}
use Rattle.buffers.specs.declared.Buffer.TheVariants.{A}
use Rattle.buffers.specs.Turns.{fresh_turns}
use Rattle.buffers.proofs.Tags.{weigh}
use Rattle.output.specs.Output.{slot_count, contents, with_held, holding, with_place, fresh_output}
use Rattle.output.specs.WellFormed.{bad_depth}
use Rattle.queue.specs.Queue as queue
use Rattle.landing.specs.Landing.{Out, put, puts, Fits, Conditions, Landed}
use Rattle.landing.proofs.Theorem.{empty, fits, oldest_room, landed}
use Rattle.rules.specs.declared.Capture.{Capture}
use Rattle.rules.specs.Capture.{enabled}
use Rattle.rules.specs.Sample.{capture_sample, next_capture}
use Rattle.laws.proofs.RegisterValues.{eight_bits}
use Rattle.laws.proofs.Sampled.{next_overrun, next_enable, word_enabled}
use Rattle.board_rules.specs.State.{is_two}
use Rattle.board_rules.specs.BoardRuns.{lent}
use Rattle.delivery.specs.Calls.{System, stepped}
use Rattle.delivery.specs.Noted.{Turn, first_turn, word_turn, next_turn, Noted, note, noted, words, any_error}
use Rattle.delivery.specs.Placed.{with_noted}
use Rattle.delivery.specs.Delivery.{Scenario, set_up, trace, configured, distance, start_bytes, Room, Provided, All}
use Rattle.delivery.proofs.Alls.{all_first}
use Rattle.delivery.proofs.Inputs.{input, inputs, captures, captures_append, inputs_append, inputs_length, window_grants, inputs_words, count_words, first_calm}
use Rattle.delivery.proofs.Spacing.{always_spaced, spacing_positive}
use Rattle.delivery.proofs.Following.{answered, Roomy}
use Rattle.delivery.proofs.SetUp.{mode_of, set_up_ready, set_up_allowed}
use Rattle.delivery.proofs.NotedNumbers.{turned, turned_append, noted_append}
use Rattle.delivery.proofs.Chain.{opens, continues}
use Rattle.delivery.proofs.Along.{puts_snoc, last_fits, same_enable, last_calm, grows}
use Rattle.delivery.proofs.Sampling.{sampled, sampled_append, packs}
use Rattle.delivery.proofs.Standing.{Turning, Standing, Fair}
use Rattle.delivery.proofs.OneSample.{sample_stands}

-- The capture rules never raise OVR, and note no word while ENABLE is 0.
pub captures_overrun : (s : Capture) (xs : List ℕ) → bit 1 s.registers.ris ≡ false → bit 1 (captures s xs).registers.ris ≡ false
unfolding captures
captures_overrun s [] off = off
captures_overrun s (w ∷ ws) off = captures_overrun (next_capture s w) ws (next_overrun s w ∙ off)

none_disabled : (s : Capture) (xs : List ℕ) → enabled s ≡ false → queue.words (inputs s xs) ≡ []
unfolding inputs queue.words
none_disabled s [] off = refl
none_disabled s (w ∷ ws) off = go (capture_sample s w).word (word_enabled s w) (none_disabled (next_capture s w) ws (next_enable s w ∙ off))
  where
    rest : List (queue.Input ℕ)
    rest = inputs (next_capture s w) ws

    go : (o : Option ℕ) → ((v : ℕ) → o ≡ Some v → enabled s ≡ true) → queue.words rest ≡ [] → queue.words (record { grant = (input s w).grant; word = o } ∷ rest) ≡ []
    go None on e = e
    go (Some v) on e = let z : ◌≡◌ {A = Bool} true false = sym (on v refl) ∙ off in absurd (true≢false z)

-- A device that was made has at least one place in its FIFO.
deep : (depth : ℕ) → bad_depth depth ≡ false → 1 ≤ depth
unfolding bad_depth
deep depth sound = let n = eqb-false depth 0 (or_false (eqb depth 0) (ltb slot_count depth) sound).0 in omega arith

module _ (x : Scenario) where
  abbrev pub first : Capture
  first = (configured x).capture

  abbrev pub two : Bool
  two = (configured x).two

  -- The turn and the noted words after samples xs.
  abbrev pub turn : List ℕ → Turn
  turn xs = turned two (first_turn two) first xs

  abbrev pub words_of : List ℕ → List Noted
  words_of xs = noted 0 two (first_turn two) first xs

  -- A frame buffer with room for every word, and the output over it after samples xs.
  abbrev pub own : List ℕ
  own = replicate (4 * length (words_of (trace x))) 0

  abbrev pub out : List ℕ → Out
  out xs = puts (enabled first) (empty x.depth own) (inputs first xs)

  -- What stands after samples xs.
  abbrev pub At : List ℕ → System → Type 0
  At xs s = Standing x two (captures first xs) (out xs).state (turn xs) (words_of xs) s

module _ (x : Scenario) (p : Provided x) where
  -- The premises, as the output rules have them.
  conditions : Conditions (enabled (first x)) x.depth (distance x) (own x) (inputs (first x) (trace x))
  conditions =
      record {
        deep = deep x.depth p.made;
        positive = spacing_positive _;
        granted = λ k h. rw window_grants (p.granted k (rw inputs_length at h));
        spaced = always_spaced (first x) (trace x) (λ coded. (eight_bits (first x).registers (set_up_allowed x.depth p.made x.set_up_calls) coded).0);
        room = rw (count_words (two x) (first_turn (two x)), length-replicate) (omega arith);
        enabled = none_disabled (first x) (trace x);
      }

  -- After the first samples, xs, with zs still to come.
  module _ (xs zs : List ℕ) (e : trace x ≡ xs ++ zs) where
    split : Conditions (enabled (first x)) x.depth (distance x) (own x) (inputs (first x) xs ++ inputs (captures (first x) xs) zs)
    split = rw (← inputs_append, ← e) conditions

    fit : Fits (enabled (first x)) (empty x.depth (own x)) (inputs (first x) xs)
    fit = fits (inputs (first x) xs) (inputs (captures (first x) xs) zs) split

    pub lands : Landed x.depth (distance x) 0 (own x) (inputs (first x) xs) (out x xs)
    lands = landed (inputs (first x) xs) (inputs (captures (first x) xs) zs) split 0 (own x) refl

    pub rooms : All (Room x) (words_of x xs)
    rooms = all_first (Room x) (words_of x xs) _ (rw (take-length (trace x), e, noted_append 0 (two x) (first_turn (two x)) (first x) xs zs) at p.room)

    pub held : contents (out x xs).state ≡ drop (out x xs).state.output.counts.landed (words (words_of x xs))
    held = rw (← inputs_words 0 (two x) (first_turn (two x)) (first x) xs) lands.held

    own_room : (vs : List ℕ) → contents (out x xs).state ≡ vs → Roomy vs (out x xs).state.output.place (out x xs).buffer
    own_room vs is pos = oldest_room (inputs (first x) xs) (inputs (captures (first x) xs) zs) split (rw is pos)

  -- One more sample, ERR rising at none so far.
  module _ (xs zs : List ℕ) (w : ℕ) (e : trace x ≡ xs ++ w ∷ zs) (calm : any_error (first x) (xs ++ w ∷ []) ≡ false) where
    abbrev c : Capture
    c = captures (first x) xs

    -- The samples with it.
    longer : trace x ≡ (xs ++ w ∷ []) ++ zs
    longer = e ∙ sym (append_snoc xs w zs)

    captures_more : captures (first x) (xs ++ w ∷ []) ≡ next_capture c w
    unfolding captures
    captures_more = captures_append (first x) xs (w ∷ [])

    turn_more : turn x (xs ++ w ∷ []) ≡ next_turn (two x) (turn x xs) c (capture_sample c w)
    unfolding turned
    turn_more = turned_append (two x) (first_turn (two x)) (first x) xs (w ∷ [])

    abbrev note_here : List Noted
    note_here = note (0 + length xs + 1) (word_turn (two x) (turn x xs)) (capture_sample c w).word

    words_more : words_of x (xs ++ w ∷ []) ≡ words_of x xs ++ note_here
    unfolding noted
    words_more = noted_append 0 (two x) (first_turn (two x)) (first x) xs (w ∷ []) ∙ rw append-nil

    inputs_more : inputs (first x) (xs ++ w ∷ []) ≡ inputs (first x) xs ++ input c w ∷ []
    unfolding inputs
    inputs_more = inputs_append (first x) xs (w ∷ [])

    out_more : out x (xs ++ w ∷ []) ≡ put (enabled (first x)) (out x xs) (input c w)
    out_more = rw inputs_more (puts_snoc (enabled (first x)) (empty x.depth (own x)) (inputs (first x) xs) (input c w))

    sampled_more : sampled (start_bytes x) (set_up x) (xs ++ w ∷ []) ≡ stepped (start_bytes x) (sampled (start_bytes x) (set_up x) xs) w
    unfolding sampled
    sampled_more = sampled_append (start_bytes x) (set_up x) xs (w ∷ [])

    fair : Fair (enabled (first x)) c (out x xs) w
    fair =
        record {
          enabled = same_enable (first x) xs;
          quiet = last_calm (first x) xs w calm;
          roomy = own_room xs (w ∷ zs) e;
          space = last_fits _ _ (inputs (first x) xs) (input c w) (rw inputs_more at (fit (xs ++ w ∷ []) zs longer));
        }

    all_there : (put (enabled (first x)) (out x xs) (input c w)).state.output.counts.landed + (put (enabled (first x)) (out x xs) (input c w)).state.output.held
        ≡ length (words_of x xs ++ note_here)
    all_there = rw (← out_more, ← words_more) ((lands (xs ++ w ∷ []) zs longer).split ∙ count_words (two x) (first_turn (two x)) (first x) (xs ++ w ∷ []))

    pub more : At x xs (sampled (start_bytes x) (set_up x) xs) → At x (xs ++ w ∷ []) (sampled (start_bytes x) (set_up x) (xs ++ w ∷ [])) × (packs (start_bytes x) (sampled (start_bytes x) (set_up x) xs) w ≡ answered (capture_sample c w).word)
    more g =
        let (stands, says) = sample_stands x c (out x xs) (turn x xs) (words_of x xs) _ (0 + length xs + 1) w fair (rooms xs (w ∷ zs) e) (held xs (w ∷ zs) e) g all_there in
        (rw (captures_more, turn_more, words_more, out_more, sampled_more) stands, says)

  started : At x [] (set_up x)
  unfolding captures inputs puts turned noted fresh_output holding with_held with_place with_noted fresh_turns weigh
  started =
      let r = set_up_ready x.depth p.made x.set_up_calls in
      record {
        place = 0;
        mode = mode_of (two x);
        both = x.lent;
        is = rw r.is;
        is_mode = mode_is (two x);
        done = [];
        rest = [];
        whole = refl;
        landed = refl;
        line = record { buffer = A; number = 0 };
        turning = first_turning (two x);
        told = first_told;
      }
    where
      mode_is : (two : Bool) → is_two (mode_of two) ≡ two
      mode_is true = refl
      mode_is false = refl

      first_turning : (two : Bool) → Turning (mode_of two) 0 0 (record { buffer = A; number = 0 }) [] (first_turn two)
      first_turning true = record { held = refl; in_b = refl; opening = refl; turn = refl; begun = refl; place = refl; chain = opens refl refl }
      first_turning false = (refl, refl, continues refl)

      first_told : (u : Buffer) → lent u x.lent ≡ record { memory = (lent u x.lent).memory; start = (lent u x.lent).start }
      first_told u = refl

  pub standing : (xs zs : List ℕ) → trace x ≡ xs ++ zs → any_error (first x) xs ≡ false → At x xs (sampled (start_bytes x) (set_up x) xs)
  unfolding sampled
  standing =
      grows (λ xs. any_error (first x) xs ≡ false → At x xs (sampled (start_bytes x) (set_up x) xs)) (trace x)
      (λ xs zs w e g calm. (more xs zs w e calm (g (first_calm (first x) xs (w ∷ []) calm))).0)
      (λ calm. started)
