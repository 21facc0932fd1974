-- Words are noted at least 8 samples apart at 8 bits without JPEG and ESS, else 4, from any capture state whose CR is accepted. The idea: each datum takes a working edge, and with it
-- a sample at the clock's other level before the next, and so does the frame's end that pads a word (W4); so no word comes before its samples are reached, and after a word they begin
-- anew. With ESS 1 the bytes that wait count beside the data (W6, crate laws, `pace`). Assumes nothing.
use mathlib.Core.Bool.{Bool, true, false, cond, not, ◌&&◌, beq, false≢true}
use mathlib.Core.List.{List, [], ◌∷◌}
use Rattle.std.specs.Prelude.{Option, None, Some}
use mathlib.Core.Path.{◌≡◌, refl, sym, ap, ◌∙◌}
use Prim.Native.Nat.{ℕ, zero, suc, ◌+◌, ◌*◌, ◌/◌, ◌%◌, ◌≤◌, ◌<◌}
use native.Mathlib.Omega.{arith}
use lib.Dec.{eqb}
use lib.ListN.{length, take, length-take}
use Rattle.bits.specs.Bits.{field}
use Rattle.bits.proofs.Booleans.{and_true, by_cond, either}
use Rattle.registers.specs.Control.{jpeg, embedded, pckpol, edm}
use Rattle.packing.specs.Packing.{per_word}
use Rattle.samples.specs.Samples.{bus_grant, clock_pin, pixel_data}
use Rattle.queue.specs.Queue.{Input, Spaced, words}
use Rattle.rules.specs.declared.Pins.{Pins}
use Rattle.rules.specs.declared.Capture.{Capture}
use Rattle.rules.specs.State.{with_ris, with_registers, with_pins, raise}
use Rattle.rules.specs.Capture.{Captured, no_word, flagged, working_edge, enabled, remember_pins, blanking, at_edge}
use Rattle.rules.specs.Codes.{at_byte}
use Rattle.rules.specs.Sample.{byte_of, edge, capture_sample, next_capture}
use Rattle.laws.proofs.RegisterValues.{half_setup, same_edm, same_jpeg, same_embedded}
use Rattle.laws.proofs.Moved.{Paced, edges, at_edge_moved}
use Rattle.laws.proofs.Coded.{at_byte_left}
use Rattle.laws.proofs.Pace.{pace, byte_paced}
use Rattle.laws.proofs.Sampled.{next_half}
use Rattle.delivery.specs.Noted.{spacing}
use Rattle.delivery.proofs.Inputs.{inputs, inputs_take}

-- 1 while the clock is not at its working level, which is PCKPOL.
abbrev away : Bool → Bool → ℕ
away clock polarity = cond (beq clock polarity) 0 1

-- The working edges that are over of those that a word takes: one for each datum of the partial word; with ESS 1 (W6) `pace`.
unfoldable over : Bool → Capture → ℕ
over coded s = cond coded (pace s) s.partial.count

-- How many samples they take, two for each, and one more while the clock is away.
unfoldable reached : Capture → ℕ
reached s = 2 * over (embedded s.registers.cr) s + away s.pins.clock (pckpol s.registers.cr)

-- At a working edge the clock goes from its other level to its working level.
edge_levels : (p before now : Bool) → cond p (not before && now) (before && not now) ≡ true → (away before p ≡ 1) × (away now p ≡ 0)
edge_levels true true now e = absurd (false≢true e)
edge_levels true false true e = (refl, refl)
edge_levels true false false e = absurd (false≢true e)
edge_levels false true true e = absurd (false≢true e)
edge_levels false true false e = (refl, refl)
edge_levels false false now e = absurd (false≢true e)

same_pckpol : (x y : ℕ) → field 13 1 x ≡ field 13 1 y → pckpol x ≡ pckpol y
same_pckpol x y h = let e : x / 32 % 2 ≡ y / 32 % 2 = omega arith in rw e

-- Two samples for each of the working edges that a word takes at least.
abbrev word_edges : ℕ → ℕ
word_edges cr = cond (embedded cr) 2 (edges cr)

spacing_edges : (cr : ℕ) → spacing cr ≡ 2 * word_edges cr
unfolding spacing edges per_word
spacing_edges cr = go (eqb (edm cr) 0) (jpeg cr) (embedded cr)
  where
    go : (eight compressed coded : Bool) → cond (eight && not compressed && not coded) 8 4 ≡ 2 * cond coded 2 (cond compressed 2 (cond eight 4 2))
    go true true true = refl
    go true true false = refl
    go true false true = refl
    go true false false = refl
    go false true true = refl
    go false true false = refl
    go false false true = refl
    go false false false = refl

twice : (q p p' : ℕ) (o : Option ℕ) → Paced q p p' o → Paced (2 * q) (2 * p + 1) (2 * p' + 0) o
twice q p p' None h = omega arith
twice q p p' (Some v) h = (omega arith, omega arith)

abbrev Steady : Capture → Captured → Type 0
Steady s c = Paced (spacing s.registers.cr) (reached s) (reached c.state) c.word

-- ESS 1 is accepted at 8 bits only.
abbrev Accepted : ℕ → Type 0
Accepted cr = embedded cr ≡ true → eqb (edm cr) 0 ≡ true

-- A working edge, from what rules 3 to 8 leave and how they pace words.
edge_steady : (s : Capture) (w : ℕ) (c : Captured) → working_edge s w ≡ true → c.state.registers.cr / 2 ≡ s.registers.cr / 2
    → c.state.pins ≡ (remember_pins w s).pins
    → Paced (word_edges s.registers.cr) (over (embedded s.registers.cr) s) (over (embedded s.registers.cr) c.state) c.word
    → Steady s c
unfolding working_edge remember_pins with_pins reached over pace
edge_steady s w c e half pins paced =
    let (before, now) = edge_levels (pckpol s.registers.cr) s.pins.clock (clock_pin w) e in
    let same = half_setup _ _ half in
    let clock : c.state.pins.clock ≡ clock_pin w = ap (λ (p : Pins). p.clock) pins in
    rw (spacing_edges, before, same_pckpol _ _ same, same_embedded _ s.registers.cr same, clock, now) (twice _ _ _ c.word paced)

edge_paced : (s : Capture) (w : ℕ) → Accepted s.registers.cr → working_edge s w ≡ true → enabled s ≡ true → Steady s (edge s w)
unfolding edge remember_pins with_pins over pace
edge_paced s w accepted e on =
    by_cond (Steady s) (embedded s.registers.cr) _ _
    (λ coded.
    let c = at_byte (remember_pins w s) (byte_of w) in
    let l = at_byte_left (remember_pins w s) (byte_of w) on in
    edge_steady s w c e l.half l.pins (rw coded (byte_paced (remember_pins w s) (byte_of w) (accepted coded))))
    (λ plain.
    let c = at_edge (remember_pins w s) (blanking s w) (pixel_data w) in
    let m = at_edge_moved (remember_pins w s) (blanking s w) (pixel_data w) in
    edge_steady s w c e m.half m.pins (rw plain m.paced))

rest_paced : (s : Capture) (w : ℕ) → Steady s (no_word (remember_pins w s))
unfolding no_word remember_pins with_pins reached over pace
rest_paced s w = omega (arith, either {x = 0} {y = 1} (λ n. n ≤ 1) (beq (clock_pin w) (pckpol s.registers.cr)) (omega arith) (omega arith))

paced : (s : Capture) (w : ℕ) → Accepted s.registers.cr → Steady s (capture_sample s w)
unfolding capture_sample
paced s w accepted =
    by_cond (Steady s) (working_edge s w && enabled s) _ _
    (λ e. let (edges, on) = and_true (working_edge s w) (enabled s) e in edge_paced s w accepted edges on)
    (λ e. rest_paced s w)

-- FRAME plays no part.
next_reached : (s : Capture) (w : ℕ) → reached (next_capture s w) ≡ reached (capture_sample s w).state
unfolding next_capture flagged raise with_registers with_ris reached over pace
next_reached s w = either (λ (t : Capture). reached t ≡ reached (capture_sample s w).state) (capture_sample s w).due refl refl

next_spacing : (s : Capture) (w : ℕ) → spacing (next_capture s w).registers.cr ≡ spacing s.registers.cr
unfolding spacing remember_pins with_pins
next_spacing s w =
    let same = half_setup _ _ (next_half s w) in
    rw (same_edm _ s.registers.cr same, same_jpeg _ s.registers.cr same, same_embedded _ s.registers.cr same)

next_accepted : (s : Capture) (w : ℕ) → Accepted s.registers.cr → Accepted (next_capture s w).registers.cr
next_accepted s w accepted coded =
    let same = half_setup _ _ (next_half s w) in
    rw (same_edm _ s.registers.cr same) (accepted (sym (same_embedded _ s.registers.cr same) ∙ coded))

-- So few samples hold at most one word, and none before its samples are reached.
rare : (q : ℕ) (s : Capture) (ws : List ℕ) → Accepted s.registers.cr → spacing s.registers.cr ≡ q → length ws ≤ q
    → (length (words (inputs s ws)) ≤ 1) × (length ws + reached s < q → length (words (inputs s ws)) ≡ 0)
unfolding inputs words
rare q s [] a e h = (omega arith, λ l. refl)
rare q s (w ∷ ws) a e h =
    go (capture_sample s w).word (rw (← next_reached, e) at (paced s w a)) (rare q (next_capture s w) ws (next_accepted s w a) (next_spacing s w ∙ e) (omega arith))
  where
    next : Capture
    next = next_capture s w

    go : (o : Option ℕ) → Paced q (reached s) (reached next) o
        → (length (words (inputs next ws)) ≤ 1) × (length ws + reached next < q → length (words (inputs next ws)) ≡ 0)
        → let is : List (Input ℕ) = record { grant = bus_grant w; word = o } ∷ inputs next ws in
        (length (words is) ≤ 1) × (length (w ∷ ws) + reached s < q → length (words is) ≡ 0)
    go None p (one, early) = (one, λ l. early (omega arith))
    go (Some v) p (one, early) = (omega (arith, early (omega arith)), λ l. absurd (omega arith))

spaced_by : (q : ℕ) (s : Capture) (xs : List ℕ) → Accepted s.registers.cr → spacing s.registers.cr ≡ q → Spaced q (inputs s xs)
unfolding inputs
spaced_by q s xs a e zero = rw (← inputs_take) (rare q s (take q xs) a e (rw length-take (omega arith))).0
spaced_by q s [] a e (suc k) = rw (← inputs_take s q []) (rare q s (take q []) a e (rw length-take (omega arith))).0
spaced_by q s (w ∷ ws) a e (suc k) = spaced_by q (next_capture s w) ws (next_accepted s w a) (next_spacing s w ∙ e) k

pub always_spaced : (s : Capture) (xs : List ℕ) → Accepted s.registers.cr → Spaced (spacing s.registers.cr) (inputs s xs)
always_spaced s xs accepted = spaced_by _ s xs accepted refl

pub spacing_positive : (cr : ℕ) → 1 ≤ spacing cr
unfolding spacing
spacing_positive cr = either (λ n. 1 ≤ n) (eqb (edm cr) 0 && not (jpeg cr) && not (embedded cr)) (omega arith) (omega arith)
