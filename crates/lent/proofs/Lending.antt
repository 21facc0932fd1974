-- The holder's side of a lent board, for a proof that walks a function's MIR by hand; the functions here need none. The board in a local is lent for a lifetime κ, and comes
-- back at the board that the borrower left.
-- A board is plain data: what it owns is facts, so the local's cell is all that is lent, and what a board owns is made anew for it.
-- The cell stands at the type τ that the holder's MIR has for a board (`Behind`).
use mathlib.Core.Path.{◌≡◌, refl, sym}
use Prim.Native.Nat.{ℕ}
use mathlib.Core.List.{List, [], ◌∷◌}
use seplogic.Ra.Ura.{Ura}
use base.Fraction.{full_share}
use mir.Syntax.{Ty, named}
use mir.Val.{Val, vptr}
use base.Fml.{Lft, GName, Fml, fsep, fat, fdead, fres, flent}
use types.Logic.{Logic}
use types.Kit.{Goal, Soaks, Seq, Item, ‵, ◌⊛◌, some, later, ◌$◌, move, drop, use1, use3, split, pick, fsplit, fjoin, fpick, fpack, await, rewrite}
use types.SemTy.{Body}
use denote.Laws.{Is, shows}
use denote.Lend.{lends_ref, ref_back}
use denote.Memory.{mem, cell_at, part_of}
use denote.Ref.{MutBor, MutRef}
use denote.Steps.{owned, peeks}
use denote.Struct.Laws as LL
use denote.Struct.Steps.{spelt}
use Rattle.board_rules.specs.declared.Board.{Board}
use Rattle.board_rules.specs.contracts.Board as T
use Rattle.board_rules.proofs.Board.TheLaws as T'
use Rattle.lent.proofs.Behind.{val, IsBoard}

-- the reference to the board d at (b, o), under the name δ, and what it owns for κ
abbrev pub to_board : ℕ → ℕ → GName → Board → MutBor Board
to_board b o δ d = record { ref_ptr = (b, o); ghost_name = δ; now = d }

abbrev pub Lent : Lft → ℕ → ℕ → GName → Board → Fml
Lent κ b o δ d = (MutRef (named 0) κ T.the_row).own_val (to_board b o δ d) (vptr b o ∷ [])

-- what the holder keeps meanwhile
abbrev pub Kept : Lft → ℕ → ℕ → GName → Fml
Kept κ b o δ = flent κ (Body (mem T.the_row) b o δ)

module _ {M : Type 1} {𝓤 : Ura M} {𝓛 : Logic 𝓤} {K : Type 0} {Γ : List (Item 𝓤)} {G : Goal 𝓤 𝓛.H} where
  pub board_lends : K → Soaks G → {τ : Ty} → T'.mir ≡ τ → (κ : Lft) (d : Board) → IsBoard d → (b o : ℕ) → ((δ : GName) → Seq K 𝓛 (‵ (Lent κ b o δ d) ∷ ‵ (Kept κ b o δ) ∷ Γ) G) → Seq K 𝓛 (‵ (fat full_share τ b o (val d)) ∷ Γ) G
  unfolding part_of
  board_lends t z e κ d is b o k =
      rewrite t 0 (λ (τ : Ty). ‵ (fat full_share τ b o (val d))) (sym e) refl $
      use1 𝓛 (‵ (cell_at full_share (T.the_row).mir (val d ∷ []) b o)) (𝓛.laws.at_raw full_share T'.mir b o (val d)) $ owned t T.the_row (Is T.the_row) (LL.makes T.the_type T'.the_plain 𝓛) d (val d ∷ []) is $
      move t (1 ∷ 0 ∷ []) $ fjoin t $ fpack t (List Val) (λ vs. fsep (cell_at full_share (T.the_row).mir vs b o) ((T.the_row).own_val d vs)) (val d ∷ []) $
      use1 𝓛 (later (some (λ (δ : GName). ‵ (Lent κ b o δ d) ⊛ ‵ (Kept κ b o δ)))) (lends_ref 𝓛 T.the_row (named 0) κ d b o) $ await t z $ pick t (λ δ. split t $ k δ)

  pub board_back : K → Soaks G → {τ : Ty} → T'.mir ≡ τ → {κ : Lft} {δ : GName} (d : Board) (b o : ℕ)
      → (IsBoard d → Seq K 𝓛 (‵ (fat full_share τ b o (val d)) ∷ Γ) G) → Seq K 𝓛 (‵ (fdead κ) ∷ ‵ (Kept κ b o δ) ∷ ‵ (fres δ ((T.the_row).coded.code d)) ∷ Γ) G
  unfolding part_of
  board_back t z e {κ} {δ} d b o k =
      use3 𝓛 (later (‵ ((mem T.the_row).own_at d b o))) (ref_back 𝓛 T.the_row κ δ d b o) $ await t z $ fpick t (λ vs. fsplit t $
      spelt t T.the_row (Is T.the_row) (shows 𝓛 T.the_row) (LL.vals T.the_type T'.the_laws) (LL.tells T.the_type T'.the_laws) full_share d vs b o $
      use1 𝓛 (‵ (fat full_share T'.mir b o (val d))) (𝓛.laws.raw_at full_share T'.mir b o (val d)) $ move t (1 ∷ []) $ peeks t T.the_row (Is T.the_row) (shows 𝓛 T.the_row) d (val d ∷ []) (λ is. drop t $ rewrite t 0 (λ (τ : Ty). ‵ (fat full_share τ b o (val d))) e refl $ k is))
