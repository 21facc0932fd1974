-- Where all held words are of the buffer where the words that come next go (`alone`): their tags are those of so many words of one buffer (`single_of`), and a stretch that has done nothing
-- leaves place and turns (`place_before`, `turns_before`). Assumes nothing.
use mathlib.Core.Bool.{Bool, true, false, cond, not, ◌&&◌, false≢true}
use mathlib.Core.Path.{◌≡◌, refl, sym, ap, ◌∙◌}
use Prim.Native.Nat.{ℕ, zero, suc, ◌/◌, ◌%◌, ◌≤◌, ◌<◌, ◌^◌}
use native.Mathlib.Omega.{arith}
use lib.Dec.{eqb, ltb, leb}
use borrow.Author.Tests.{lt-ltb, le-ltb, ne_eqb, eqb-true, leb-true}
use Rattle.bits.proofs.Booleans.{and_true, or_unit}
use Rattle.buffers.specs.declared.Buffer.{Buffer}
use Rattle.buffers.specs.declared.Buffer.TheVariants.{A, B}
use Rattle.buffers.specs.declared.Turns.{Turns}
use Rattle.buffers.specs.Turns.{other, oldest_opens, with_tags}
use Rattle.two_buffers.specs.Stretches.{tags_in, next_buffer, alone, first_opens, opening_in, place_a, place_b, turns_by}
use Rattle.two_buffers.proofs.Doing.{doing}

-- Where no frame has begun no word is held, and the first that comes opens one.
pub alone_fresh : (held : ℕ) (t : Turns) → alone held t ≡ true → t.begun ≡ false → first_opens held t ≡ true
unfolding alone first_opens
alone_fresh held t e b =
    let none : eqb held 0 ≡ true = sym (or_unit (eqb held 0)) ∙ (rw b at e) in
    rw (none, b)

-- The tags, of no word and of some.
zero_tags : (u : Buffer) → tags_in u 0 ≡ 0
unfolding tags_in
zero_tags A = refl
zero_tags B = refl

zero_opening : (o : Bool) → opening_in o 0 ≡ 0
unfolding opening_in
zero_opening true = refl
zero_opening false = refl

opening_is : (n held : ℕ) → 0 < held → n ≤ 1 → opening_in (eqb (n / 1 % 2) 1) held ≡ n
unfolding opening_in
opening_is zero held pos le = refl
opening_is (suc zero) held pos le = lt_cond held pos
  where
    lt_cond : (held : ℕ) → 0 < held → ◌≡◌ {A = ℕ} (cond (ltb 0 held) 1 0) 1
    lt_cond held pos = rw (lt-ltb 0 held pos)
opening_is (suc (suc n)) held pos le = absurd (omega arith)

-- What `alone` says.
pub record Single (held : ℕ) (t : Turns) : Type 0 where
  pub begun : 0 < held → t.begun ≡ true
  pub tags : tags_in (next_buffer t) held ≡ t.in_b
  pub opening : opening_in (first_opens held t) held ≡ t.opening

pub single_of : (held : ℕ) (t : Turns) → alone held t ≡ true → t.in_b < 2 ^ held → t.opening < 2 ^ held → Single held t
unfolding alone next_buffer first_opens oldest_opens
single_of zero t e buffers opening =
    record { begun = λ pos. absurd (omega arith); tags = zero_tags _ ∙ zero_is _ buffers; opening = zero_opening _ ∙ zero_is _ opening }
  where
    zero_is : (n : ℕ) → n < 2 ^ 0 → 0 ≡ n
    zero_is n less = omega arith
single_of (suc h) t e buffers opening =
    let some : eqb (suc h) 0 ≡ false = ne_eqb (suc h) 0 (λ z. omega arith) in
    let (begun, rest) = and_true t.begun (eqb t.in_b (tags_in t.turn (suc h)) && leb t.opening 1) (rw some at e) in
    let (tags, low) = and_true (eqb t.in_b (tags_in t.turn (suc h))) (leb t.opening 1) rest in
    record {
      begun = λ pos. begun;
      tags = ap (λ (b : Bool). tags_in (cond b t.turn (other t.turn)) (suc h)) begun ∙ sym (eqb-true _ _ tags);
      opening = ap (λ (b : Bool). opening_in (cond b (not t.begun) (oldest_opens t)) (suc h)) some ∙ opening_is t.opening (suc h) (omega arith) (leb-true _ _ low);
    }

-- With no word held the first opens a frame just if none has begun.
pub first_waits : (held : ℕ) (t : Turns) → first_opens held t ≡ true → t.begun ≡ true → 0 < held
unfolding first_opens
first_waits zero t e b = absurd (false≢true (sym (ap not b) ∙ e))
first_waits (suc h) t e b = omega arith

pub none_yet : (n : ℕ) → ltb n n ≡ false
none_yet n = le-ltb n n (omega arith)

pub place_before : (u : Buffer) (p a : ℕ) → place_a u false p a ≡ a
unfolding place_a
place_before A p a = refl
place_before B p a = refl

retagged : (i o : ℕ) (t : Turns) → i ≡ t.in_b → o ≡ t.opening → with_tags i o t ≡ t
unfolding with_tags
retagged i o t e f = ap (λ (n : ℕ). with_tags n o t) e ∙ ap (λ (n : ℕ). with_tags t.in_b n t) f

pub turns_before : (u : Buffer) (opens : Bool) (held p : ℕ) (t : Turns) → tags_in u held ≡ t.in_b → opening_in opens held ≡ t.opening → turns_by u opens t (doing false false false held p) ≡ t
unfolding turns_by place_b
turns_before A true held p t e f = retagged _ _ t e f
turns_before A false held p t e f = retagged _ _ t e f
turns_before B true held p t e f = retagged _ _ t e f
turns_before B false held p t e f = retagged _ _ t e f
