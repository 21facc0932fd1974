-- While every word finds room in the FIFO and in its frame buffer and ERR does not rise, a sample is the capture rules beside the output rules, at whatever place and in whatever frame buffer the
-- oldest held word lands (`step_fits`). The idea: rules 1 and 9 read of place and frame buffer only whether there is room. Assumes nothing.
use mathlib.Core.Bool.{Bool, true, false, cond, ◌&&◌}
use mathlib.Core.List.{List, [], ◌∷◌}
use Rattle.std.specs.Prelude.{Option, None, Some}
use mathlib.Core.Path.{◌≡◌, refl, ap, ◌∙◌}
use Prim.Native.Nat.{ℕ, ◌+◌, ◌*◌, ◌<◌}
use native.Mathlib.Omega.{arith}
use lib.Dec.{ltb}
use lib.ListN.{length}
use Rattle.output.specs.declared.Fate.TheVariants.{Held, Lost}
use Rattle.output.specs.Output.{OutputState, contents, push, with_held, holding, with_counts, with_place, count_sample, count_word, count_landed, room, stored, Granted, no_landing, lands, oldest_lands, grant, Offered, offer, counted}
use Rattle.output.specs.declared.Packing.{Packing as Packed}
use Rattle.output.specs.declared.Packing.TheVariants.{Nothing as nothing, Completed as completed}
use Rattle.samples.specs.Samples.{bus_grant}
use Rattle.landing.specs.Landing.{Out, first_rule, take_in, put}
use Rattle.landing.proofs.Beside.{offer_held}
use Rattle.rules.specs.declared.Capture.{Capture}
use Rattle.rules.specs.State.{device}
use Rattle.rules.specs.Capture.{Captured, flagged, enabled}
use Rattle.rules.specs.Sample.{capture_sample, next_capture}
use Rattle.rules.specs.RegisterCalls.{placed}
use Rattle.rules.specs.Run.{Completed, after_word, complete, after_grant, Stepped, step}
use Rattle.delivery.proofs.Inputs.{input}

-- What a sample answers of its word where none is lost.
abbrev pub answered : Option ℕ → Packed
answered None = nothing
answered (Some v) = completed v

complete_fits : (o : Option ℕ) (c : Captured) (x : OutputState) → c.error ≡ false → ((v : ℕ) → o ≡ Some v → x.output.held < x.output.depth)
    → complete o c x ≡ record { device = device (flagged c) (take_in o x); packed = answered o }
unfolding complete after_word take_in
complete_fits None c x quiet space = rw quiet
complete_fits (Some v) c x quiet space = let h : (offer v x).fate ≡ Held = ap (λ (r : Offered). r.fate) (offer_held v x (space v refl)) in rw h

-- The output at another place.
abbrev pub at_place : ℕ → OutputState → OutputState
at_place p x = record { output = with_place p x.output; slots = x.slots }

-- The word that leaves, of the held ones, if the bus is granted; and what it does to a place and a frame buffer, and what is answered of it.
abbrev pub leaving : Bool → List ℕ → Option ℕ
leaving granted [] = None
leaving granted (v ∷ vs) = cond granted (Some v) None

abbrev pub place_after : ℕ → Option ℕ → ℕ
place_after p None = p
place_after p (Some v) = p + 1

abbrev pub buffer_after : ℕ → Option ℕ → List ℕ → List ℕ
buffer_after p None b = b
buffer_after p (Some v) b = stored p v b

abbrev pub byte_after : ℕ → Option ℕ → Option ℕ
byte_after p None = None
byte_after p (Some v) = Some (4 * p)

-- There is room for the oldest held word.
abbrev pub Roomy : List ℕ → ℕ → List ℕ → Type 0
Roomy held p b = 0 < length held → room p b ≡ true

same_contents : (p : ℕ) (x : OutputState) → contents (at_place p x) ≡ contents x
unfolding contents with_place
same_contents p x = refl

-- Rule 1 at two places, over two frame buffers, with the words vs held.
grant_placed : (g on : Bool) (x : OutputState) (vs : List ℕ) (p : ℕ) (b b' : List ℕ) → contents x ≡ vs → Roomy vs x.output.place b → Roomy vs p b'
    → let l = leaving (g && on) vs in
    grant g on (at_place p x) b' ≡ record { state = at_place (place_after p l) (grant g on x b).state; buffer = buffer_after p l b'; landing = byte_after p l }
unfolding grant with_place oldest_lands no_landing lands holding with_held count_landed with_counts
grant_placed g on x vs p b b' e here there = rw (same_contents p x, e) (go (g && on) vs here there)
  where
    go : (t : Bool) (vs : List ℕ) → Roomy vs x.output.place b → Roomy vs p b'
        → cond t (oldest_lands vs (at_place p x) b') (no_landing (at_place p x) b')
        ≡ record {
          state = at_place (place_after p (leaving t vs)) (cond t (oldest_lands vs x b) (no_landing x b)).state;
          buffer = buffer_after p (leaving t vs) b';
          landing = byte_after p (leaving t vs);
        }
    go true [] here there = refl
    go true (v ∷ vs) here there = rw (here (omega arith), there (omega arith))
    go false [] here there = refl
    go false (v ∷ vs) here there = refl

-- Rule 9 at another place.
take_in_placed : (o : Option ℕ) (p : ℕ) (x : OutputState) → take_in o (at_place p x) ≡ at_place p (take_in o x)
unfolding take_in offer holding with_held with_place count_word with_counts contents
take_in_placed None p x = refl
take_in_placed (Some v) p x = go (ltb x.output.held x.output.depth)
  where
    held : Offered
    held = record { state = holding (x.output.held + 1) (push v (contents x)) (count_word x.output); fate = Held }

    lost : Offered
    lost = record { state = record { output = count_word x.output; slots = x.slots }; fate = Lost }

    placed_so : Offered → Offered
    placed_so r = record { state = at_place p r.state; fate = r.fate }

    go : (b : Bool) → (cond b (placed_so held) (placed_so lost)).state ≡ at_place p (cond b held lost).state
    go true = refl
    go false = refl

-- One sample, ENABLE being on or not: `o` is the output beside the capture rules, with its own place and frame buffer, and holds the words vs.
pub step_fits : {on : Bool} (s : Capture) (o : Out) (vs : List ℕ) (p : ℕ) (b : List ℕ) (w : ℕ) → enabled s ≡ on → (capture_sample s w).error ≡ false
    → contents o.state ≡ vs → Roomy vs o.state.output.place o.buffer → Roomy vs p b
    → ((v : ℕ) → (capture_sample s w).word ≡ Some v → (first_rule on o (input s w)).state.output.held < (first_rule on o (input s w)).state.output.depth)
    → let l = leaving (bus_grant w && on) vs in
    step (placed p (device s o.state)) b w
    ≡ record {
      device = placed (place_after p l) (device (next_capture s w) (put on o (input s w)).state);
      buffer = buffer_after p l b;
      landing = byte_after p l;
      packed = answered (capture_sample s w).word;
    }
unfolding step after_grant counted put next_capture contents count_sample with_counts with_place
step_fits {on} s o vs p b w e quiet holds here there space =
    let c = capture_sample s w in
    let l = leaving (bus_grant w && on) vs in
    let y = (first_rule on o (input s w)).state in
    let after : Granted → Stepped =
    λ g. let r = complete c.word c g.state in record { device = r.device; buffer = g.buffer; landing = g.landing; packed = r.packed } in
    let told : Completed → Stepped = λ r. record { device = r.device; buffer = buffer_after p l b; landing = byte_after p l; packed = r.packed } in
    let done : OutputState → Stepped = λ x. told (record { device = device (flagged c) x; packed = answered c.word }) in
    rw e (ap after (grant_placed (bus_grant w) on (counted o.state) vs p o.buffer b holds here there))
    ∙ ap told (complete_fits c.word c (at_place (place_after p l) y) quiet space)
    ∙ ap done (take_in_placed c.word (place_after p l) y)
