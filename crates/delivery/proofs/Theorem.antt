-- Demand 3 (`delivery`), over every depth and spacing (W9) and both buffer modes (W2); `usual`: at the depth where none is named. The idea: the calls are one list of samples, over which the device is the
-- capture rules beside the output rules, and these land every word. Assumes nothing.
use mathlib.Core.Bool.{false}
use mathlib.Core.List.{List, [], ◌∷◌, ◌++◌, map}
use mathlib.Core.Path.{◌≡◌, refl, sym, ap, subst, ◌∙◌}
use Prim.Native.Nat.{ℕ, ◌+◌, ◌*◌, ◌≤◌, ◌<◌}
use native.Mathlib.Omega.{arith}
use lib.ListN.{length, take, drop, length-append}
use lib.Seq.{append_snoc, take_at}
use Rattle.buffers.specs.declared.Buffer.{Buffer}
use Rattle.buffers.specs.declared.Buffer.TheVariants.{A, B}
use Rattle.output.specs.Output.{usual_depth, bytes, contents, with_place}
use Rattle.output.specs.declared.Packing.{Packing as Packed}
use Rattle.output.specs.WellFormed.{bad_depth}
use Rattle.rules.specs.State.{device}
use Rattle.rules.specs.RegisterCalls.{placed}
use Rattle.registers.specs.Control.{embedded}
use Rattle.board_rules.specs.BoardCalls.{fresh_of}
use Rattle.board_rules.specs.declared.Board.{Board}
use Rattle.board_rules.specs.TwoBuffers.{Pair, part}
use Rattle.board_rules.specs.BoardRuns.{Lent, Both, lent, memories}
use Rattle.delivery.specs.Calls.{boards, System, Moment, moments}
use Rattle.delivery.specs.Noted.{first_turn, Noted, noted_at, any_error}
use Rattle.delivery.specs.Placed.{standing_at}
use Rattle.delivery.specs.Delivery.{grants, Scenario, set_up, trace, configured, distance, noted_by, start_bytes, OneStart, Room, Premises, Elsewhere, Promised, All, unsampled, all_moments, Delivery}
use Rattle.delivery.proofs.Alls.{all_append, all_first, all_map}
use Rattle.delivery.proofs.Inputs.{captures, inputs_take, inputs_length, count_words, first_calm, calm_by_pins}
use Rattle.delivery.proofs.SetUp.{fresh_ready, set_up_ready}
use Rattle.delivery.proofs.NotedNumbers.{numbered, last_noted}
use Rattle.delivery.proofs.Stored.{Within}
use Rattle.delivery.proofs.Stored as stored
use Rattle.delivery.proofs.Unsampled.{each_promised}
use Rattle.delivery.proofs.Prefixes.{Answered, Reached, all_reached}
use Rattle.delivery.proofs.Standing.{told, within}
use Rattle.delivery.proofs.Afterwards.{captures_overrun, first, two, words_of, out, lands, rooms, held, more, standing}

module _ (x : Scenario) (p : Premises x) where
  calm : (xs zs : List ℕ) → trace x ≡ xs ++ zs → any_error (first x) xs ≡ false
  calm xs zs e = first_calm (first x) xs zs (rw e at p.no_error)

  in_time : (xs zs : List ℕ) → trace x ≡ xs ++ zs → (before : List Noted) (w : Noted) (after : List Noted) → words_of x xs ≡ before ++ w ∷ after
      → w.sample + x.depth * distance x ≤ length xs → length before < (out x xs).state.output.counts.landed
  in_time xs zs e before w after is h =
      let came = (numbered 0 (two x) (first_turn (two x)) (first x) xs before w after is).1 w.sample (omega arith) in
      let gone = (lands x p.provided xs zs e).in_time w.sample (rw inputs_length h) in
      omega (arith, rw (← inputs_take (first x) w.sample, count_words (two x) (first_turn (two x))) at gone)

  -- What is answered after them: the word noted at the last.
  last_answer : (xs zs : List ℕ) (q : Packed) → trace x ≡ xs ++ zs → Answered (start_bytes x) (set_up x) xs q → q ≡ noted_at (length xs) (words_of x xs)
  last_answer xs zs q e a =
      let ys = a.before in
      let w = a.last in
      let number : length (ys ++ w ∷ []) ≡ 0 + length ys + 1 = rw length-append (omega arith) in
      let whole : trace x ≡ ys ++ w ∷ zs = e ∙ rw a.split (append_snoc ys w zs) in
      let says = (more x p.provided ys zs w whole (calm _ zs (whole ∙ sym (append_snoc ys w zs))) (standing x p.provided ys (w ∷ zs) whole (calm ys (w ∷ zs) whole))).1 in
      rw (a.split, number, last_noted) (a.packed ∙ says)

  -- The memories, from those that stand.
  part_told : (u : Buffer) (l : Both) → part u (memories l) ≡ (lent u l).memory
  part_told A l = refl
  part_told B l = refl

  -- A landed word stands at its bytes until another lands there.
  stood : (done : List Noted) (now : Pair) → All (Room x) done → ((u : Buffer) → part u now ≡ (told x u done).memory)
      → (before : List Noted) (w : Noted) (after : List Noted) → done ≡ before ++ w ∷ after → All (Elsewhere w) after
      → take 4 (drop (standing_at (lent w.turn.buffer x.lent).start w) (part w.turn.buffer now)) ≡ bytes w.word
  stood done now fit is before w after e others =
      let u = w.turn.buffer in
      let start = (lent u x.lent).start in
      let m = (lent u x.lent).memory in
      let inside = all_map (Room x) (Within u start (length m)) (within x u) done fit in
      rw (is u, e) (stored.stands u start (length m) before w after m refl others (rw e at inside) refl)

  -- A moment after them.
  promised : (m : Moment) → Reached (start_bytes x) (set_up x) (trace x) m → Promised x m
  unfolding with_place contents
  promised m r =
      let xs = r.so_far in
      let e = r.whole in
      let g = standing x p.provided xs r.rest e (calm xs r.rest e) in
      let y = (out x xs).state in
      let at : take m.count (trace x) ≡ xs = rw (e, r.count) (take_at xs r.rest (length xs) refl) in
      let here : m.board.device ≡ placed g.place (device (captures (first x) xs) y) = ap (λ (b : Board). b.device) r.board ∙ ap (λ (s : System). s.board.device) g.is in
      let l = lands x p.provided xs r.rest e in
      let long : length g.done ≡ y.output.counts.landed = sym g.landed in
      let gone : take y.output.counts.landed (words_of x xs) ≡ g.done = rw g.whole (take_at g.done g.rest _ long) in
      let now : (u : Buffer) → part u m.memories ≡ (told x u g.done).memory =
      λ u.
      ap (part u) (r.memories ∙ ap (λ (s : System). s.memories) g.is) ∙ part_told u g.both ∙ ap (λ (l : Lent). l.memory) (g.told u) in
      record {
        no_overrun = rw here (captures_overrun (first x) xs (rw (set_up_ready x.depth p.provided.made x.set_up_calls).no_flag));
        none_discarded = rw here l.none_discarded;
        completed = rw (at, here) (l.completed ∙ count_words (two x) (first_turn (two x)) (first x) xs);
        in_memory = λ u. rw (at, here, gone) (now u);
        held = rw (at, here) (held x p.provided xs r.rest e);
        split = rw (at, here) (l.split ∙ count_words (two x) (first_turn (two x)) (first x) xs);
        in_time = rw (at, here, r.count) (in_time xs r.rest e);
        stands = rw (at, here, gone) (stood g.done m.memories (all_first (Room x) g.done g.rest (rw g.whole at (rooms x p.provided xs r.rest e))) now);
        answers = λ q o. rw (at, r.count) (last_answer xs r.rest q e (r.answers q o));
      }

-- Every moment of the runs and single samples is that after the first of their accepted samples; the others are before any.
pub delivery : (x : Scenario) → Delivery x
delivery x p =
    let calls = moments (set_up x) 0 x.calls in
    all_append (Promised x) (map (unsampled x) (boards (fresh_of x.depth) x.set_up_calls)) calls
    (each_promised x _ _ x.set_up_calls (fresh_ready x.depth p.provided.made))
    (all_map (Reached (start_bytes x) (set_up x) (trace x)) (Promised x) (promised x p) calls (all_reached (start_bytes x) (set_up x) x.calls p.provided.one_start))

-- Every d·s accepted samples hold at least d grants.
abbrev Dense : Scenario → ℕ → Type 0
Dense x depth = (k : ℕ) → k + depth * distance x ≤ length (trace x) → depth ≤ grants (take (depth * distance x) (drop k (trace x)))

-- Four is the depth where none is named (W9): one start, room, four grants in every 4·s samples, and no ERR are all the premises.
pub usual : (x : Scenario) → x.depth ≡ usual_depth → OneStart (start_bytes x) (set_up x) x.calls → All (Room x) (noted_by x (length (trace x)))
    → Dense x 4 → any_error (configured x).capture (trace x) ≡ false → All (Promised x) (all_moments x)
unfolding bad_depth
usual x e one room granted calm =
    delivery x (record { provided = record { made = rw e; one_start = one; room = room; granted = subst (Dense x) (sym e) granted }; no_error = calm })

-- With ESS 0 the premise that ERR never rises is none (W6).
pub without_codes : (x : Scenario) → embedded (configured x).capture.registers.cr ≡ false → any_error (configured x).capture (trace x) ≡ false
without_codes x plain = calm_by_pins (configured x).capture (trace x) plain
