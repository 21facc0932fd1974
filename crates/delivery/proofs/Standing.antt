-- The system after some samples, in both modes (W2): the device is the capture rules beside the output rules, but for its place; the first noted words have landed, each in its memory; and where the
-- next one lands is known (`Standing`). So there is room for it. Assumes nothing.
use mathlib.Core.Bool.{Bool, true, false, false≢true}
use mathlib.Core.List.{List, [], ◌∷◌, ◌++◌}
use Rattle.std.specs.Prelude.{Some}
use mathlib.Core.Path.{◌≡◌, refl, sym, ap, subst, ◌∙◌}
use Prim.Native.Nat.{ℕ, ◌+◌, ◌-◌, ◌*◌, ◌≤◌, ◌<◌}
use native.Mathlib.Omega.{arith}
use lib.ListN.{length, length-drop}
use borrow.Author.Tests.{le-leb}
use Rattle.buffers.specs.declared.Buffer.{Buffer}
use Rattle.buffers.specs.declared.Buffer.TheVariants.{A, B}
use Rattle.buffers.specs.Turns.{oldest_buffer, oldest_place}
use Rattle.buffers.specs.Story.{same_buffer}
use Rattle.buffers.specs.Kept.{Kept}
use Rattle.output.specs.Output.{OutputState, contents, room}
use Rattle.landing.specs.Landing.{Out, first_rule}
use Rattle.rules.specs.declared.Capture.{Capture}
use Rattle.rules.specs.declared.Device.{Device}
use Rattle.rules.specs.State.{device}
use Rattle.rules.specs.Capture.{enabled}
use Rattle.rules.specs.Sample.{capture_sample}
use Rattle.rules.specs.RegisterCalls.{placed}
use Rattle.board_rules.specs.declared.Mode.{Mode}
use Rattle.board_rules.specs.declared.Mode.TheVariants.{One, Two}
use Rattle.board_rules.specs.State.{is_two}
use Rattle.board_rules.specs.BoardRuns.{Lent, Both, lent, memories, frame_buffer}
use Rattle.delivery.specs.Calls.{System}
use Rattle.delivery.specs.Noted.{Turn, Noted, words}
use Rattle.delivery.specs.Placed.{standing_at, with_noted}
use Rattle.delivery.specs.Delivery.{All, Scenario, Room}
use Rattle.delivery.proofs.Alls.{all_first, all_last, all_map}
use Rattle.delivery.proofs.Inputs.{input}
use Rattle.delivery.proofs.Following.{leaving, place_after, Roomy}
use Rattle.delivery.proofs.Stored.{Within, with_noted_length}
use Rattle.delivery.proofs.Chain.{Comes, opens, continues, Chain, passed}
use Rattle.delivery.proofs.Tagged.{Tagged, oldest_in, oldest_at}
use Rattle.delivery.proofs.Landings.{First}

-- A system whose memories are those that a call lends.
abbrev pub system : Device → Mode → Both → System
system d m l = record { board = record { device = d; mode = m }; memories = memories l }

-- What is kept in a mode of the words ns that have not landed: p is the device's place, h the number of held words, l where the next word of the last landed one's frame goes, t the turn.
abbrev pub Turning : Mode → ℕ → ℕ → Turn → List Noted → Turn → Type 0
Turning One p h l ns t = (l.buffer ≡ A) × (p ≡ l.number) × Chain false l ns t
Turning (Two k) p h l ns t = Tagged (record { turns = k; place_a = p; held = h }) l ns t

-- A memory in which words have landed.
abbrev pub told : Scenario → Buffer → List Noted → Lent
told x u ns = record { memory = with_noted u (lent u x.lent).start ns (lent u x.lent).memory; start = (lent u x.lent).start }

-- Capture state c, output y, turn t and noted words ns.
pub record Standing (x : Scenario) (two : Bool) (c : Capture) (y : OutputState) (t : Turn) (ns : List Noted) (s : System) : Type 0 where
  pub place : ℕ
  pub mode : Mode
  pub both : Both
  pub is : s ≡ system (placed place (device c y)) mode both
  pub is_mode : is_two mode ≡ two
  pub done : List Noted
  pub rest : List Noted
  pub whole : ns ≡ done ++ rest
  pub landed : y.output.counts.landed ≡ length done
  pub line : Turn
  pub turning : Turning mode place y.output.held line rest t
  pub told : (u : Buffer) → lent u both ≡ told x u done

-- A sample at which ERR does not rise and a word, if one comes, finds room in the FIFO; and the oldest held word has room in the output's own frame buffer.
pub record Fair (on : Bool) (c : Capture) (o : Out) (w : ℕ) : Type 0 where
  pub enabled : enabled c ≡ on
  pub quiet : (capture_sample c w).error ≡ false
  pub roomy : (vs : List ℕ) → contents o.state ≡ vs → Roomy vs o.state.output.place o.buffer
  pub space : (v : ℕ) → (capture_sample c w).word ≡ Some v → (first_rule on o (input c w)).state.output.held < (first_rule on o (input c w)).state.output.depth

-- Room in the real frame buffer.
pub within : (x : Scenario) (u : Buffer) (n : Noted) → Room x n → Within u (lent u x.lent).start (length (lent u x.lent).memory) n
within x u n = go u n.turn.buffer
  where
    go : (u v : Buffer) → 4 * n.turn.number + 4 ≤ length (frame_buffer (lent v x.lent)) → same_buffer u v ≡ true
        → standing_at (lent u x.lent).start n + 4 ≤ length (lent u x.lent).memory
    go A A h e = omega (arith, rw length-drop at h)
    go A B h e = absurd (false≢true e)
    go B A h e = absurd (false≢true e)
    go B B h e = omega (arith, rw length-drop at h)

pub real_room : (x : Scenario) (u : Buffer) (p : ℕ) (done rest : List Noted) (l : Lent) → All (Room x) (done ++ rest) → First u p rest → l ≡ told x u done
    → Roomy (words rest) p (frame_buffer l)
unfolding room
real_room x u p done [] l rooms first e pos = absurd (omega arith)
real_room x u p done (n ∷ ns) l rooms first e pos =
    let start = (lent u x.lent).start in
    let m = (lent u x.lent).memory in
    let inside = all_map (Room x) (Within u start (length m)) (within x u) done (all_first (Room x) done (n ∷ ns) rooms) in
    let long = with_noted_length u start (length m) done m inside refl in
    let (here, others) = all_last (Room x) done (n ∷ ns) rooms in
    let fits : 4 * p + 4 ≤ length m - start = rw length-drop at (subst (λ (v : Buffer). 4 * p + 4 ≤ length (frame_buffer (lent v x.lent))) (sym first.0) (rw first.1 here)) in
    le-leb (4 * p + 4) (length (frame_buffer l)) (rw (e, length-drop, long) fits)

-- Where the oldest held word lands, in each mode.
abbrev pub to_buffer : Mode → Buffer
to_buffer One = A
to_buffer (Two k) = oldest_buffer k

abbrev pub to_place : Mode → ℕ → ℕ
to_place One p = p
to_place (Two k) p = oldest_place p k

pub lands_first : (m : Mode) (p h : ℕ) (l t : Turn) (ns : List Noted) → Turning m p h l ns t → First (to_buffer m) (to_place m p) ns
lands_first One p h l t [] g = tt
lands_first One p h l t (n ∷ ns) (a, at, c) = go c.0
  where
    go : Comes false l n.turn → (A ≡ n.turn.buffer) × (p ≡ n.turn.number)
    go (opens e z) = absurd (false≢true e)
    go (continues e) = (sym (ap (λ (u : Turn). u.buffer) e ∙ a), at ∙ sym (ap (λ (u : Turn). u.number) e))
lands_first (Two k) p h l t [] g = tt
lands_first (Two k) p h l t (n ∷ ns) g =
    let x : Kept = record { turns = k; place_a = p; held = h } in
    (oldest_in x l n ns t g, oldest_at x l n ns t g)

-- A landing with one buffer.
pub one_lands : (granted : Bool) (p : ℕ) (l t : Turn) (ns : List Noted) → Turning One p 0 l ns t
    → ((passed granted l ns).buffer ≡ A) × (place_after p (leaving granted (words ns)) ≡ (passed granted l ns).number)
one_lands granted p l t [] (a, at, c) = (a, at)
one_lands true p l t (n ∷ ns) g = let (a, at) = lands_first One p 0 l t (n ∷ ns) g in (sym a, ap (λ k. k + 1) at)
one_lands false p l t (n ∷ ns) (a, at, c) = (a, at)
