-- ERR in demand 3 (W6). Under the premises but that of ERR, bit 2 of RIS is 1 at a moment exactly if ERR rises at one of the samples so far, by the inputs alone (`error_flag`). So under the premises it is 0 at every moment
-- (`no_error_flag`), and under the others alone it is 1 at some moment exactly if `any_error` holds (`error_at_some_moment`). The idea: until ERR rises the device is the capture rules beside the output rules, and no sample clears it. Assumes nothing.
use mathlib.Core.Bool.{Bool, true, false, ◌||◌, false≢true}
use mathlib.Core.List.{List, [], ◌∷◌, ◌++◌, map, append-nil}
use mathlib.Core.Path.{◌≡◌, refl, sym, ap, ◌∙◌}
use Prim.Native.Nat.{ℕ, ◌+◌, ◌<◌}
use native.Mathlib.Nat.{zero-add}
use native.Mathlib.Omega.{arith}
use lib.ListN.{length, take, drop, length-append, take-append-drop}
use lib.Seq.{take-length, take_at}
use Rattle.bits.specs.Bits.{bit}
use Rattle.bits.proofs.Booleans.{or_true, or_unit}
use Rattle.rules.specs.declared.Capture.{Capture}
use Rattle.rules.specs.Sample.{capture_sample, next_capture}
use Rattle.rules.specs.RegisterCalls.{placed}
use Rattle.laws.proofs.Flags.{error_by_rules}
use Rattle.board_rules.specs.declared.Board.{Board}
use Rattle.board_rules.specs.TwoBuffers.{two_step}
use Rattle.board_rules.specs.BoardCalls.{fresh_of}
use Rattle.delivery.specs.Calls.{boards, Starts, one_memory, two_memories, Call, starts_of, System, accepted, after_call, samples, says, stepped, Moment, moment, moments_inside, moments}
use Rattle.delivery.specs.Noted.{Configured, any_error}
use Rattle.delivery.specs.Delivery.{Scenario, set_up, trace, configured, start_bytes, Provided, Premises, All, unsampled, all_moments}
use Rattle.delivery.proofs.Alls.{all_append, all_last, all_map}
use Rattle.delivery.proofs.Inputs.{captures, first_calm}
use Rattle.delivery.proofs.Along.{grows}
use Rattle.delivery.proofs.SetUp.{Ready, fresh_ready, set_up_ready}
use Rattle.delivery.proofs.Sampling.{sampled, sampled_append}
use Rattle.delivery.proofs.Unsampled.{each_unsampled}
use Rattle.delivery.proofs.Prefixes.{Reached, all_reached}
use Rattle.delivery.proofs.Afterwards.{first, standing}

-- ERR of a board, and at a moment.
abbrev pub err : Board → Bool
err b = bit 2 b.device.core.capture.registers.ris

abbrev pub error_at : Moment → Bool
error_at m = err m.board

-- ERR rises at one of the first n accepted samples, by the inputs alone.
abbrev pub error_by : Scenario → ℕ → Bool
error_by x n = any_error (configured x).capture (take n (trace x))

-- A test that some moment passes.
abbrev pub at_some : (Moment → Bool) → List Moment → Bool
at_some f [] = false
at_some f (m ∷ ms) = f m || at_some f ms

-- A sample raises ERR where the capture rules say so, and never clears it.
stepped_error : (t : Starts) (s : System) (w : ℕ) → err (stepped t s w).board ≡ err s.board || (capture_sample s.board.device.core.capture w).error
unfolding stepped two_step
stepped_error (one_memory start) s w = error_by_rules s.board.device _ w
stepped_error (two_memories start_a start_b) s w = error_by_rules (placed _ s.board.device) _ w

one_more : (s : Capture) (xs : List ℕ) (w : ℕ) → any_error s (xs ++ w ∷ []) ≡ any_error s xs || (capture_sample (captures s xs) w).error
unfolding any_error captures
one_more s [] w = or_unit (capture_sample s w).error
one_more s (x ∷ xs) w = rw (one_more (next_capture s x) xs w) (go (capture_sample s x).error _ _)
  where
    go : (b c d : Bool) → b || (c || d) ≡ (b || c) || d
    go true c d = refl
    go false c d = refl

module _ (x : Scenario) (p : Provided x) where
  -- The board after samples xs.
  abbrev after : List ℕ → Board
  after xs = (sampled (start_bytes x) (set_up x) xs).board

  error_rises : (xs zs : List ℕ) (w : ℕ) → trace x ≡ xs ++ w ∷ zs → err (after xs) ≡ any_error (first x) xs → err (after (xs ++ w ∷ [])) ≡ any_error (first x) (xs ++ w ∷ [])
  unfolding sampled
  error_rises xs zs w e so =
      ap (λ (s : System). err s.board) (sampled_append (start_bytes x) (set_up x) xs (w ∷ []))
      ∙ stepped_error (start_bytes x) (sampled (start_bytes x) (set_up x) xs) w
      ∙ ap (λ (b : Bool). b || (capture_sample (after xs).device.core.capture w).error) so
      ∙ go (any_error (first x) xs) refl
      ∙ sym (one_more (first x) xs w)
    where
      go : (b : Bool) → any_error (first x) xs ≡ b
          → b || (capture_sample (after xs).device.core.capture w).error ≡ b || (capture_sample (captures (first x) xs) w).error
      go true rose = refl
      go false calm = ap (λ (s : System). (capture_sample s.board.device.core.capture w).error) (standing x p xs (w ∷ zs) e calm).is

  error_after : (xs zs : List ℕ) → trace x ≡ xs ++ zs → err (after xs) ≡ any_error (first x) xs
  unfolding sampled any_error
  error_after =
      let r = set_up_ready x.depth p.made x.set_up_calls in
      grows (λ xs. err (after xs) ≡ any_error (first x) xs) (trace x) error_rises (rw (r.is, r.no_flag))

  reached_error : (m : Moment) → Reached (start_bytes x) (set_up x) (trace x) m → error_at m ≡ error_by x m.count
  reached_error m r =
      let at : take m.count (trace x) ≡ r.so_far = rw (r.whole, r.count) (take_at r.so_far r.rest (length r.so_far) refl) in
      rw (at, r.board) (error_after r.so_far r.rest r.whole)

  ready_error : (c : Configured) (b : Board) → Ready x.depth c b → error_at (unsampled x b) ≡ error_by x 0
  unfolding any_error
  ready_error c b r = rw (r.is, r.no_flag)

-- At every moment ERR is as the inputs say.
pub error_flag : (x : Scenario) → Provided x → All (λ m. error_at m ≡ error_by x m.count) (all_moments x)
error_flag x p =
    let So : Moment → Type 0 = λ m. error_at m ≡ error_by x m.count in
    let calls = moments (set_up x) 0 x.calls in
    all_append So (map (unsampled x) (boards (fresh_of x.depth) x.set_up_calls)) calls
    (each_unsampled x So (ready_error x p) _ _ x.set_up_calls (fresh_ready x.depth p.made))
    (all_map (Reached (start_bytes x) (set_up x) (trace x)) So (reached_error x p) calls (all_reached (start_bytes x) (set_up x) x.calls p.one_start))

-- Under the premises it is 0.
calm_by : (x : Scenario) → any_error (configured x).capture (trace x) ≡ false → (n : ℕ) → error_by x n ≡ false
calm_by x calm n = first_calm (configured x).capture (take n (trace x)) (drop n (trace x)) (rw take-append-drop calm)

pub no_error_flag : (x : Scenario) → Premises x → All (λ m. error_at m ≡ false) (all_moments x)
no_error_flag x p =
    all_map (λ m. error_at m ≡ error_by x m.count) (λ m. error_at m ≡ false) (λ m e. e ∙ calm_by x p.no_error m.count) (all_moments x) (error_flag x p.provided)

-- A test f of moments that is one, g, of their numbers of samples: no moment passes if no number does, and some moment if the number of all samples does.
module _ (f : Moment → Bool) (g : ℕ → Bool) where
  abbrev By_count : Moment → Type 0
  By_count m = f m ≡ g m.count

  some_append : (ms ns : List Moment) → at_some f ns ≡ true → at_some f (ms ++ ns) ≡ true
  some_append [] ns e = e
  some_append (m ∷ ms) ns e = rw (some_append ms ns e) (or_true (f m))

  none_passes : (ms : List Moment) → All By_count ms → ((n : ℕ) → g n ≡ false) → at_some f ms ≡ false
  none_passes [] so none = refl
  none_passes (m ∷ ms) so none = rw (so.0, none m.count, none_passes ms so.1 none)

  last_passes : (s : System) (n : ℕ) (cs : List Call) → 0 < length (samples s cs) → All By_count (moments s n cs) → g (n + length (samples s cs)) ≡ true → at_some f (moments s n cs) ≡ true
  unfolding samples moments
  last_passes s n [] some so e = absurd (omega arith)
  last_passes s n (c ∷ cs) some so e =
      let ms = moments_inside (starts_of c) s n (accepted s c) in
      let (here, later) = all_last By_count ms (m' ∷ rest) so in
      some_append ms (m' ∷ rest) (go (samples (after_call s c) cs) here (λ some e. last_passes (after_call s c) n' cs some later e) e)
    where
      n' : ℕ
      n' = n + length (accepted s c)

      m' : Moment
      m' = moment (after_call s c) n' (says s c)

      rest : List Moment
      rest = moments (after_call s c) n' cs

      go : (zs : List ℕ) → f m' ≡ g n' → (0 < length zs → g (n' + length zs) ≡ true → at_some f rest ≡ true) → g (n + length (accepted s c ++ zs)) ≡ true → f m' || at_some f rest ≡ true
      go [] here later e = rw (here ∙ rw append-nil at e)
      go (z ∷ zs) here later e =
          let long : n + length (accepted s c ++ z ∷ zs) ≡ n' + length (z ∷ zs) = rw length-append (omega arith) in
          rw (later (omega arith) (rw long at e)) (or_true (f m'))

-- Where ERR rises there are samples.
samples_some : (s : Capture) (ws : List ℕ) → any_error s ws ≡ true → 0 < length ws
unfolding any_error
samples_some s [] e = absurd (false≢true e)
samples_some s (w ∷ ws) e = omega arith

-- Under the others alone ERR is 1 at some moment exactly if it rises by the inputs.
pub error_at_some_moment : (x : Scenario) → Provided x → at_some error_at (all_moments x) ≡ any_error (configured x).capture (trace x)
error_at_some_moment x p = go (any_error (configured x).capture (trace x)) refl
  where
    go : (b : Bool) → any_error (configured x).capture (trace x) ≡ b → at_some error_at (all_moments x) ≡ b
    go false calm = none_passes error_at (error_by x) (all_moments x) (error_flag x p) (calm_by x calm)
    go true rises =
        let before = map (unsampled x) (boards (fresh_of x.depth) x.set_up_calls) in
        let calls = moments (set_up x) 0 x.calls in
        let whole : error_by x (0 + length (trace x)) ≡ true = rw (zero-add, take-length) rises in
        some_append error_at (error_by x) before calls
        (last_passes error_at (error_by x) (set_up x) 0 x.calls (samples_some (configured x).capture (trace x) rises) (all_last (By_count error_at (error_by x)) before calls (error_flag x p)) whole)
