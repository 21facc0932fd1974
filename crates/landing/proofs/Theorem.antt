-- Under the conditions every word finds room (`fits`, `oldest_room`), and what is promised of memory and FIFO holds after any first part of the inputs (`landed`).
use mathlib.Core.Bool.{Bool, true, false}
use mathlib.Core.List.{List, [], ◌∷◌, ◌++◌, append_assoc, append-nil}
use Rattle.std.specs.Prelude.{Some}
use mathlib.Core.Path.{◌≡◌, refl, ap, ◌∙◌}
use Prim.Native.Nat.{ℕ, ◌+◌, ◌*◌, ◌≤◌, ◌<◌}
use native.Mathlib.Omega.{arith}
use lib.ListN.{length, take, drop, length-append}
use lib.Seq.{append_snoc, take-append-le, take_at, drop_at, drop-drop}
use Rattle.output.specs.Output.{contents, laid, with_held, holding, fresh_output, all_bytes, room}
use Rattle.queue.specs.Queue.{Input, start, leave, from, after, words}
use Rattle.queue.proofs.Flow.{words_append, after_snoc, queue_law}
use Rattle.queue.proofs.Theorem.{finds_room, served}
use Rattle.landing.specs.Memory.{with_words}
use Rattle.landing.specs.Landing.{Out, first_rule, put, puts, Fits, Conditions, Landed}
use Rattle.landing.proofs.Buffer.{filled_room}
use Rattle.landing.proofs.Beside.{Beside, rule_beside, put_beside}

-- At reset, with a depth and a frame buffer.
abbrev pub empty : ℕ → List ℕ → Out
empty depth buffer = record { state = fresh_output depth; buffer = buffer }

started : (depth : ℕ) (b : List ℕ) → Beside depth b start (fresh_output depth) b
unfolding start fresh_output holding with_held contents laid all_bytes
started depth b = record { depth = refl; contents = refl; held = refl; place = refl; landed = refl; completed = refl; discarded = refl; buffer = refl; lost = refl }

module _ {on : Bool} {depth s : ℕ} {b₀ : List ℕ} where
  -- One input, i, after inputs ps.
  module _ (ps zs : List (Input ℕ)) (i : Input ℕ) (o : Out) (c : Conditions on depth s b₀ (ps ++ i ∷ zs))
      (r : Beside depth b₀ (after depth ps) o.state o.buffer) where
    few : length (after depth ps).left + length (after depth ps).held ≤ length (words (ps ++ i ∷ zs))
    few = rw (words_append, length-append) (omega (arith, simp length-append at (ap length ((queue_law depth ps).1 r.lost))))

    enabled : 0 < length (after depth ps).held → on ≡ true
    enabled pos = go on c.enabled
      where
        go : (b : Bool) → (b ≡ false → words (ps ++ i ∷ zs) ≡ []) → b ≡ true
        go true None = refl
        go false None = absurd (omega (arith, few, ap length (None refl)))

    finds : (v : ℕ) → i.word ≡ Some v → length (leave i (after depth ps)).held < depth
    finds v e = finds_room depth s ps i zs v c.deep c.positive c.granted c.spaced e

    space : 4 * (length (after depth ps).left + length (after depth ps).held) ≤ length b₀
    space = omega (arith, few, c.room)

    has_room : (v : ℕ) → i.word ≡ Some v → (first_rule on o i).state.output.held < (first_rule on o i).state.output.depth
    has_room v e =
        let b = rule_beside on o i enabled space r in
        omega (arith, finds v e, b.held, b.depth)

    next : Beside depth b₀ (after depth (ps ++ i ∷ [])) (put on o i).state (put on o i).buffer
    next = rw after_snoc (put_beside on o i enabled space r finds)

  beside_from : (ps is zs : List (Input ℕ)) (o : Out) → Conditions on depth s b₀ (ps ++ (is ++ zs)) → Beside depth b₀ (after depth ps) o.state o.buffer
      → Fits on o is × Beside depth b₀ (after depth (ps ++ is)) (puts on o is).state (puts on o is).buffer
  unfolding puts
  beside_from ps [] zs o c r = (tt, rw append-nil r)
  beside_from ps (i ∷ is) zs o c r =
      let (f, b) = beside_from (ps ++ i ∷ []) is zs (put on o i) (rw append_snoc c) (next ps (is ++ zs) i o c r) in
      ((has_room ps (is ++ zs) i o c r, f), rw append_snoc at b)

  module _ (is zs : List (Input ℕ)) (c : Conditions on depth s b₀ (is ++ zs)) where
    pub fits : Fits on (empty depth b₀) is
    unfolding from
    fits = (beside_from [] is zs (empty depth b₀) c (started depth b₀)).0

    beside : Beside depth b₀ (after depth is) (puts on (empty depth b₀) is).state (puts on (empty depth b₀) is).buffer
    unfolding from
    beside = (beside_from [] is zs (empty depth b₀) c (started depth b₀)).1

    in_order : (after depth is).left ++ (after depth is).held ≡ words is
    in_order = (queue_law depth is).1 beside.lost

    -- There is room in the frame buffer for the oldest held word.
    pub oldest_room : 0 < length (contents (puts on (empty depth b₀) is).state) → room (puts on (empty depth b₀) is).state.output.place (puts on (empty depth b₀) is).buffer ≡ true
    oldest_room pos =
        let b = beside in
        let q = after depth is in
        let all = simp length-append at (ap length in_order) in
        let more : length (words (is ++ zs)) ≡ length (words is) + length (words zs) = rw (words_append, length-append) in
        rw (b.place, b.buffer) (filled_room q.left b₀ (omega (arith, rw b.contents at pos, all, more, c.room)))

    left_first : take (length (after depth is).left) (words is) ≡ (after depth is).left
    left_first = rw (← in_order) (take_at _ _ _ refl)

    pub landed : (start : ℕ) (memory : List ℕ) → b₀ ≡ drop start memory → Landed depth s start memory is (puts on (empty depth b₀) is)
    unfolding with_words
    landed start memory e =
        let b = beside in
        let q = after depth is in
        let total = simp length-append at (ap length in_order) in
        record {
          none_discarded = b.discarded;
          completed = b.completed ∙ total;
          in_memory = rw (b.landed, left_first, b.buffer, e, drop-drop, append_assoc);
          held = rw (b.landed, ← in_order, drop_at q.left q.held (length q.left) refl) b.contents;
          split = omega (arith, b.landed, b.held);
          in_time = λ t h. rw b.landed (gone t h);
        }
      where
        gone : (t : ℕ) → t + depth * s ≤ length is → length (words (take t is)) ≤ length (after depth is).left
        gone t h =
            let early : t ≤ length is = omega arith in
            let all = is ++ zs in
            let g = (served depth s all c.deep c.positive c.granted c.spaced (length is)).in_time t h (rw length-append (omega arith)) in
            rw (take-append-le t is zs, take_at is zs (length is) refl) at g
