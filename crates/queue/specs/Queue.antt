-- A queue of depth d: at each sample a grant lets the oldest word leave, and then at most one word arrives.
-- Its two premises, which speak of windows of the list of inputs, and what they promise (`Served`). Assumes nothing.
use Rattle.std.specs.Prelude.{ℕ, ◌+◌, ◌*◌, ◌≤◌, ◌≡◌, Bool, cond, List, [], ◌∷◌, ◌++◌, length, take, drop, ltb, Option, None, Some}

-- One sample: whether the bus grants, and the word that arrives, if one does.
pub record Input (A : Type 0) : Type 0 where
  pub grant : Bool
  pub word : Option A

-- The words that left, in order; those held, oldest first; how many were lost.
pub record Queue (A : Type 0) : Type 0 where
  pub left : List A
  pub held : List A
  pub lost : ℕ

module _ {A : Type 0} where
  -- The queue before the first sample.
  unfoldable pub start : Queue A
  start = record { left = []; held = []; lost = 0 }

  -- If the sample grants and a word is held, the oldest leaves.
  unfoldable pub leave : Input A → Queue A → Queue A
  leave x q = cond x.grant (elim q.held [ [] ↦ q | v ∷ vs ↦ record { left = q.left ++ v ∷ []; held = vs; lost = q.lost } ]) q

  -- The word that arrives, if one does, is taken in if fewer than d are held, and is lost otherwise.
  unfoldable pub arrive : ℕ → Input A → Queue A → Queue A
  arrive d x q =
      elim x.word [
        | None ↦ q
        | Some v ↦
            cond (ltb (length q.held) d)
            (record { left = q.left; held = q.held ++ v ∷ []; lost = q.lost })
            (record { left = q.left; held = q.held; lost = q.lost + 1 })
      ]

  -- One sample: first a word may leave, then one may arrive.
  unfoldable pub sample : ℕ → Queue A → Input A → Queue A
  sample d q x = arrive d x (leave x q)

  -- The queue after a list of samples, from the queue q.
  unfoldable pub from : ℕ → Queue A → List (Input A) → Queue A
  from d q [] = q
  from d q (x ∷ xs) = from d (sample d q x) xs

  -- The queue after a list of samples, from the start.
  abbrev pub after : ℕ → List (Input A) → Queue A
  after d xs = from d start xs

  -- How many samples grant.
  unfoldable pub grants : List (Input A) → ℕ
  grants [] = 0
  grants (x ∷ xs) = cond x.grant 1 0 + grants xs

  -- The words that arrive, in order.
  unfoldable pub words : List (Input A) → List A
  words [] = []
  words (x ∷ xs) = elim x.word [ None ↦ words xs | Some v ↦ v ∷ words xs ]

  -- Each d * s consecutive samples hold at least d grants.
  abbrev pub Granted : ℕ → ℕ → List (Input A) → Type 0
  Granted d s xs = (k : ℕ) → k + d * s ≤ length xs → d ≤ grants (take (d * s) (drop k xs))

  -- Each s consecutive samples hold at most one word.
  abbrev pub Spaced : ℕ → List (Input A) → Type 0
  Spaced s xs = (k : ℕ) → length (words (take s (drop k xs))) ≤ 1

-- What holds after the first n samples of xs; `in_time`: what came in the first t samples has left once d * s more are over.
pub record Served {A : Type 0} (d s : ℕ) (xs : List (Input A)) (n : ℕ) : Type 0 where
  pub nothing_lost : (after d (take n xs)).lost ≡ 0
  pub in_order : (after d (take n xs)).left ++ (after d (take n xs)).held ≡ words (take n xs)
  pub fits : length (after d (take n xs)).held ≤ d
  pub in_time : (t : ℕ) → t + d * s ≤ n → n ≤ length xs → length (words (take t xs)) ≤ length (after d (take n xs)).left
