-- A board behind a lent reference, for a proof that walks a function's MIR by hand; the functions here need none. The reference's borrow is opened at
-- the board that lies there, and closed at another.
-- A board is plain data: what it owns is facts, so it is let go where the borrow is opened, and made anew where it is closed.
-- A walk goes over the function's MIR with its declared types spelled by some g: so none of them is laid out in it. `Spelled` is all that it knows of them.
use mathlib.Core.Path.{◌≡◌, refl, sym, subst}
use Prim.Native.Nat.{ℕ}
use mathlib.Core.List.{List, [], ◌∷◌}
use lib.Dec.{T as Holds}
use seplogic.Ra.Ura.{Ura}
use base.Fraction.{full_share}
use mir.Syntax.{Head, Ty, ty_param, ty_struct, tcons, tnil, Fn}
use mir.MapTy.{map_fn}
use mir.Table.{spell_with}
use mir.Val.{Val, WT, has_ty}
use base.Stored.{Gv}
use base.Fml.{Lft, GName, Share, fat, flft, fobs, fauth, fbor, fobor}
use types.Logic.{Logic}
use types.Kit.{Goal, Soaks, Seq, Step, step, Item, ‵, ◌$◌, move, drop, use1, rewrite}
use types.SemTy.{Body}
use denote.Laws.{Is, shows}
use denote.Memory.{mem, cell_at}
use denote.Steps.{opens, closes, owned, peeks}
use denote.Struct.Laws as LL
use denote.Struct.Steps.{spelt}
use Rattle.board_rules.specs.declared.Board.{Board}
use Rattle.board_rules.specs.contracts.Board as T
use Rattle.board_rules.proofs.Board.TheLaws as T'

-- a board's machine value, and that a value is a board's
abbrev pub val : Board → Val
val d = LL.val T.the_type T'.the_laws d

abbrev pub IsBoard : Board → Type 0
IsBoard d = Is T.the_row d (val d ∷ [])

-- a function with its declared types spelled by g, and a struct of a board and an answer
abbrev pub spelled : (Head → Ty) → Fn → Fn
spelled g f = map_fn (spell_with ty_param (λ τ. τ) (λ ν ws ss. g ν)) (λ k. k) f

abbrev pub board_head : Head
board_head = ((T.the_type).name, [])

abbrev pub beside : (Head → Ty) → Head → Head → Ty
beside g answer both = ty_struct both.0 (tcons (g board_head) (tcons (g answer) tnil))

pub record Spelled (g : Head → Ty) (answer both : Head) (answer_mir both_mir : Ty) : Type 0 where
  pub board_is : T'.mir ≡ g board_head
  pub answer_is : answer_mir ≡ g answer
  pub both_is : both_mir ≡ g both
  pub both_has : g both ≡ beside g answer both

pub retyped : (v : Val) {σ τ : Ty} → σ ≡ τ → Holds (has_ty σ v) × WT v → Holds (has_ty τ v) × WT v
retyped v e typed = subst (λ (τ : Ty). Holds (has_ty τ v) × WT v) e typed

pub typed : {M : Type 1} {𝓤 : Ura M} (𝓛 : Logic 𝓤) → {τ : Ty} → T'.mir ≡ τ → (d : Board) → IsBoard d → Holds (has_ty τ (val d)) × WT (val d)
typed 𝓛 e d is = retyped (val d) e ((LL.lawful T.the_type T'.the_laws 𝓛).typed d _ is).0

module _ {M : Type 1} {𝓤 : Ura M} {𝓛 : Logic 𝓤} {K : Type 0} {Γ : List (Item 𝓤)} {G : Goal 𝓤 𝓛.H} {κ : Lft} {q : Share} {γ : GName} where
  pub board_opens : K → Soaks G → {τ : Ty} → T'.mir ≡ τ → (d : Board) (b o : ℕ)
      → (IsBoard d → Seq K 𝓛 (‵ (fat full_share τ b o (val d)) ∷ ‵ (fobor κ q (Body (mem T.the_row) b o γ)) ∷ ‵ (fobs γ ((T.the_row).coded.code d)) ∷ ‵ (fauth γ ((T.the_row).coded.code d)) ∷ Γ) G)
      → Seq K 𝓛 (‵ (fobs γ ((T.the_row).coded.code d)) ∷ ‵ (fbor κ (Body (mem T.the_row) b o γ)) ∷ ‵ (flft κ q) ∷ Γ) G
  board_opens t z e d b o k =
      opens t z T.the_row {h = d} b o (λ vs. spelt t T.the_row (Is T.the_row) (shows 𝓛 T.the_row) (LL.vals T.the_type T'.the_laws) (LL.tells T.the_type T'.the_laws) full_share d vs b o $
      use1 𝓛 (‵ (fat full_share T'.mir b o (val d))) (𝓛.laws.raw_at full_share T'.mir b o (val d)) $ move t (1 ∷ []) $ peeks t T.the_row (Is T.the_row) (shows 𝓛 T.the_row) d (val d ∷ []) (λ is. drop t $ rewrite t 0 (λ (τ : Ty). ‵ (fat full_share τ b o (val d))) e refl $ k is))

  pub board_closes : K → Soaks G → {τ : Ty} → T'.mir ≡ τ → {u v : Gv} (d : Board) → IsBoard d → (b o : ℕ)
      → Step K 𝓛 (‵ (fobs γ ((T.the_row).coded.code d)) ∷ ‵ (fbor κ (Body (mem T.the_row) b o γ)) ∷ ‵ (flft κ q) ∷ Γ) G
      (‵ (fat full_share τ b o (val d)) ∷ ‵ (fobor κ q (Body (mem T.the_row) b o γ)) ∷ ‵ (fobs γ u) ∷ ‵ (fauth γ v) ∷ Γ) G
  board_closes t z e d is b o = step (λ s. rewrite t 0 (λ (τ : Ty). ‵ (fat full_share τ b o (val d))) (sym e) refl $
      use1 𝓛 (‵ (cell_at full_share (T.the_row).mir (val d ∷ []) b o)) (𝓛.laws.at_raw full_share T'.mir b o (val d)) $
      owned t T.the_row (Is T.the_row) (LL.makes T.the_type T'.the_plain 𝓛) d (val d ∷ []) is $ move t (1 ∷ 0 ∷ []) $ closes t z T.the_row d (val d ∷ []) b o $ s)
