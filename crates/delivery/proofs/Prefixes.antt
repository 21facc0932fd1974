-- A list of calls whose accepted samples have one start is the list of these samples: each moment is that after a first part of them (`Reached`). By induction on the calls. Assumes nothing.
use mathlib.Core.Bool.{Bool, true, false, cond}
use mathlib.Core.List.{List, [], ◌∷◌, ◌++◌, append_assoc, append-nil}
use Rattle.std.specs.Prelude.{Option, None, Some}
use mathlib.Core.Path.{◌≡◌, refl, ap, ◌∙◌}
use Prim.Native.Nat.{ℕ, ◌+◌, ◌<◌}
use native.Mathlib.Omega.{arith}
use lib.ListN.{length, length-append}
use lib.Seq.{append_snoc}
use Rattle.output.specs.declared.Packing.{Packing as Packed}
use Rattle.delivery.specs.Calls.{Starts, Call, starts_of, brings, System, accepted, after_call, samples, says, stepped, Moment, moment, moments_inside, moments}
use Rattle.delivery.specs.Delivery.{All, OneStart}
use Rattle.delivery.proofs.Alls.{all_append}
use Rattle.delivery.proofs.OneCall.{accepts, after_call_is, none_some, call_says}
use Rattle.delivery.proofs.Sampling.{sampled, sampled_append, packs}

-- The start bytes of a call make no difference to no samples.
sampled_from : (t u : Starts) (s : System) (ws : List ℕ) → (0 < length ws → u ≡ t) → sampled u s ws ≡ sampled t s ws
unfolding sampled
sampled_from t u s [] same = refl
sampled_from t u s (w ∷ ws) same = ap (λ (z : Starts). sampled z s (w ∷ ws)) (same (omega arith))

inside_from : (t u : Starts) (s : System) (n : ℕ) (ws : List ℕ) → (0 < length ws → u ≡ t) → moments_inside u s n ws ≡ moments_inside t s n ws
unfolding moments_inside
inside_from t u s n [] same = refl
inside_from t u s n (w ∷ ws) same = ap (λ (z : Starts). moments_inside z s n (w ∷ ws)) (same (omega arith))

-- The samples have the start byte, or bytes, t.
module _ (t : Starts) (s₀ : System) where
  abbrev Same_start : System → Call → Type 0
  Same_start s c = 0 < length (accepted s c) → starts_of c ≡ t

  call_after : (xs : List ℕ) (s : System) (c : Call) → Same_start s c → s ≡ sampled t s₀ xs → after_call s c ≡ sampled t s₀ (xs ++ accepted s c)
  unfolding accepted sampled
  call_after xs s c same a = after_call_is s c ∙ go (accepts s c) same
    where
      go : (b : Bool) → (0 < length (cond b (brings c) []) → starts_of c ≡ t) → cond b (sampled (starts_of c) s (brings c)) s ≡ sampled t s₀ (xs ++ cond b (brings c) [])
      go true same = sampled_from t (starts_of c) s (brings c) same ∙ rw (sampled_append t s₀ xs, ← a)
      go false same = rw append-nil a

  -- The last of samples xs answers p.
  pub record Answered (xs : List ℕ) (p : Packed) : Type 0 where
    pub before : List ℕ
    pub last : ℕ
    pub split : xs ≡ before ++ last ∷ []
    pub packed : p ≡ packs t (sampled t s₀ before) last

  says_answered : (xs : List ℕ) (s : System) (c : Call) → Same_start s c → s ≡ sampled t s₀ xs → (p : Packed) → says s c ≡ Some p → Answered (xs ++ accepted s c) p
  says_answered xs s c same a p e =
      let q = call_says s c p e in
      let one : starts_of c ≡ t = same (rw q.accepted (omega arith)) in
      record { before = xs; last = q.sample; split = rw q.accepted; packed = q.packed ∙ ap (λ (u : Starts). packs u s q.sample) one ∙ ap (λ (r : System). packs t r q.sample) a }

  -- A moment is that after samples `so_far`, with `rest` still to come, and what is said there is the last sample's answer.
  pub record Reached (trace : List ℕ) (m : Moment) : Type 0 where
    pub so_far : List ℕ
    pub rest : List ℕ
    pub whole : trace ≡ so_far ++ rest
    pub board : m.board ≡ (sampled t s₀ so_far).board
    pub memories : m.memories ≡ (sampled t s₀ so_far).memories
    pub count : m.count ≡ length so_far
    pub answers : (p : Packed) → m.packed ≡ Some p → Answered so_far p

  reached : (xs zs : List ℕ) (n : ℕ) (s : System) (o : Option Packed) → n ≡ length xs → s ≡ sampled t s₀ xs
      → ((p : Packed) → o ≡ Some p → Answered xs p) → Reached (xs ++ zs) (moment s n o)
  reached xs zs n s o e a said =
      record {
        so_far = xs;
        rest = zs;
        whole = refl;
        board = ap (λ (r : System). r.board) a;
        memories = ap (λ (r : System). r.memories) a;
        count = e;
        answers = said;
      }

  -- The moments inside an accepted run.
  inside_reached : (xs ws zs : List ℕ) (n : ℕ) (s : System) → n ≡ length xs → s ≡ sampled t s₀ xs → All (Reached (xs ++ (ws ++ zs))) (moments_inside t s n ws)
  unfolding moments_inside sampled
  inside_reached xs [] zs n s e a = tt
  inside_reached xs (w ∷ ws) zs n s e a =
      let next : n + 1 ≡ length (xs ++ w ∷ []) = rw length-append (omega arith) in
      let a' : stepped t s w ≡ sampled t s₀ (xs ++ w ∷ []) = rw (sampled_append t s₀ xs (w ∷ []), ← a) in (
        rw append_snoc at (reached (xs ++ w ∷ []) (ws ++ zs) (n + 1) (stepped t s w) None next a' (λ p o. absurd (none_some o))),
        rw append_snoc at (inside_reached (xs ++ w ∷ []) ws zs (n + 1) (stepped t s w) next a'),
      )

  -- All moments of some calls, after samples xs.
  moments_reached : (xs : List ℕ) (cs : List Call) (n : ℕ) (s : System) → OneStart t s cs → n ≡ length xs → s ≡ sampled t s₀ xs
      → All (Reached (xs ++ samples s cs)) (moments s n cs)
  unfolding moments samples
  moments_reached xs [] n s one e a = tt
  moments_reached xs (c ∷ cs) n s one e a =
      let ws = accepted s c in
      let s' = after_call s c in
      let zs = samples s' cs in
      let next : n + length ws ≡ length (xs ++ ws) = rw length-append (omega arith) in
      let a' = call_after xs s c one.0 a in
      rw (inside_from t (starts_of c) s n ws one.0)
      (all_append (Reached (xs ++ (ws ++ zs))) (moments_inside t s n ws) (_ ∷ moments s' (n + length ws) cs) (inside_reached xs ws zs n s e a) (
        rw append_assoc at (reached (xs ++ ws) zs _ _ _ next a' (says_answered xs s c one.0 a)),
        rw append_assoc at (moments_reached (xs ++ ws) cs _ _ one.1 next a'),
      ))

-- Each moment of some calls is that after a first part of their accepted samples.
pub all_reached : (t : Starts) (s : System) (cs : List Call) → OneStart t s cs → All (Reached t s (samples s cs)) (moments s 0 cs)
unfolding sampled
all_reached t s cs one = moments_reached t s [] cs 0 s one refl refl
