-- The turns of words in order (W2): each word stands next to the one before it in the same buffer, or with two buffers opens a frame (`Chain`). A word that is noted comes last, and the end of a frame
-- lets the next word open one. Assumes nothing.
use mathlib.Core.Bool.{Bool, true, false, cond, ◌&&◌}
use mathlib.Core.List.{List, [], ◌∷◌, ◌++◌, append-nil}
use Rattle.std.specs.Prelude.{Option, None, Some}
use mathlib.Core.Path.{◌≡◌, refl}
use Prim.Native.Nat.{ℕ, ◌+◌}
use lib.Dec.{eqb}
use Rattle.bits.proofs.Booleans.{and_true, by_cond}
use Rattle.delivery.specs.Noted.{Turn, word_turn, turn_after, Noted, note}

-- The turn n where l is next in the frame.
pub data Comes (two : Bool) (l n : Turn) : Type 0 where
  opens : two ≡ true → n.number ≡ 0 → Comes two l n
  continues : n ≡ l → Comes two l n

abbrev pub next : Turn → Turn
next t = record { buffer = t.buffer; number = t.number + 1 }

-- The words ns, the first of them where l is next, and then the turn t.
abbrev pub Chain : Bool → Turn → List Noted → Turn → Type 0
Chain two l [] t = Comes two l t
Chain two l (n ∷ ns) t = Comes two l n.turn × Chain two (next n.turn) ns t

comes_word : (two : Bool) (l t : Turn) → Comes two l t → Comes two l (word_turn two t)
unfolding word_turn
comes_word two l t c = by_cond (Comes two l) (two && eqb t.number 0) _ _ (λ e. opens (and_true two _ e).0 refl) (λ e. c)

pub chain_word : (two : Bool) (l t : Turn) (ns : List Noted) (n : Noted) → n.turn ≡ word_turn two t → Chain two l ns t
    → Chain two l (ns ++ n ∷ []) (next n.turn)
chain_word two l t [] n e c = (rw e (comes_word two l t c), continues refl)
chain_word two l t (m ∷ ns) n e c = (c.0, chain_word two (next m.turn) t ns n e c.1)

pub chain_end : (l t : Turn) (ns : List Noted) → Chain true l ns t → Chain true l ns (record { buffer = t.buffer; number = 0 })
chain_end l t [] c = opens refl refl
chain_end l t (n ∷ ns) c = (c.0, chain_end (next n.turn) t ns c.1)

-- The bus is granted or not: the words that land, those that stay, and what is next in the frame of the last landed one.
abbrev pub gone : Bool → List Noted → List Noted
gone granted [] = []
gone granted (n ∷ ns) = cond granted (n ∷ []) []

abbrev pub left : Bool → List Noted → List Noted
left granted [] = []
left granted (n ∷ ns) = cond granted ns (n ∷ ns)

abbrev pub passed : Bool → Turn → List Noted → Turn
passed granted l [] = l
passed granted l (n ∷ ns) = cond granted (next n.turn) l

pub gone_left : (granted : Bool) (ns : List Noted) → gone granted ns ++ left granted ns ≡ ns
gone_left granted [] = refl
gone_left true (n ∷ ns) = refl
gone_left false (n ∷ ns) = refl

pub chain_landing : (two granted : Bool) (l t : Turn) (ns : List Noted) → Chain two l ns t → Chain two (passed granted l ns) (left granted ns) t
chain_landing two granted l t [] c = c
chain_landing two true l t (n ∷ ns) c = c.1
chain_landing two false l t (n ∷ ns) c = c

-- A word is noted, or none.
pub chain_note : (two : Bool) (l t : Turn) (ns : List Noted) (i : ℕ) (o : Option ℕ) → Chain two l ns t
    → Chain two l (ns ++ note i (word_turn two t) o) (turn_after two t o)
unfolding note turn_after
chain_note two l t ns i None c = rw append-nil c
chain_note two l t ns i (Some v) c = chain_word two l t ns (record { word = v; sample = i; turn = word_turn two t }) refl c
