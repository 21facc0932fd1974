-- A flag raised, the rate counter's period, and a working edge by whether a sync blanks. Assumes nothing.
use mathlib.Core.Bool.{Bool, true, false, not, ◌&&◌, ◌||◌}
use mathlib.Core.Path.{◌≡◌, refl}
use Prim.Native.Nat.{ℕ, ◌+◌, ◌*◌, ◌%◌, ◌<◌, ◌≤◌, ◌^◌}
use native.Mathlib.Omega.{arith}
use lib.Dec.{eqb, leb}
use lib.Bits.{bit_and, bit_or, or_add_and}
use Rattle.std.proofs.lemmas.Nat.{one_shl}
use Rattle.std.proofs.lemmas.Nat.Bits.{and_pow}
use Rattle.registers.specs.Control.{crop, fcrc}
use Rattle.rules.specs.declared.Syncs.{Syncs}
use Rattle.rules.specs.declared.Scan.{Scan}
use Rattle.rules.specs.declared.Frame.{Frame}
use Rattle.rules.specs.declared.Frame.TheVariants.{Closed, Open}
use Rattle.rules.specs.declared.Capture.{Capture}
use Rattle.rules.specs.CropWindow.{lines_to_window_end}
use Rattle.rules.specs.State.{not_blanking, with_pins, with_syncs}
use Rattle.rules.specs.Capture.{no_word, vsync_flag, line_flag, sync_flags, window_ended, hsync_after_window, frame_rises, frame_due, frame_closes, rate_period, frame_start, blanking, remember_pins, any_blanks, pixel_in, pixel_edge}
use Rattle.rules.specs.Unpadded.{unpadded_end, unpadded_edge}
use Rattle.bits.specs.Bits.{bit, raised}
use Rattle.bits.proofs.Booleans.{or_false, and_zero, either, by_cond}
use Rattle.bits.proofs.Raised.{bit_true, bit_false}
use Rattle.rules.proofs.WellFormed.{CaptureOk}
use Rattle.laws.proofs.Moved.{no_pixel}
use Rattle.laws.proofs.CaptureParts.{pins_syncs_ok}

-- A flag of RIS rises by `|`.
pub or_raises : (k x : ℕ) → k < 32 → bit_or x (1 * 2 ^ k % 2 ^ 32) ≡ raised k x
unfolding raised
or_raises k x small =
    let mask : 1 * 2 ^ k % 2 ^ 32 ≡ 2 ^ k = one_shl k 32 small in
    let sum : bit_or x (2 ^ k) + bit_and x (2 ^ k) ≡ x + 2 ^ k = or_add_and x (2 ^ k) in
    rw mask (by_cond (λ y. bit_or x (2 ^ k) ≡ y) (bit k x) _ _
    (λ on. let same : bit_and x (2 ^ k) ≡ 1 * 2 ^ k = rw (and_pow, bit_true k x on) in omega arith)
    (λ off. let none : bit_and x (2 ^ k) ≡ 0 * 2 ^ k = rw (and_pow, bit_false k x off) in omega arith))

pub short_period : (cr : ℕ) → rate_period cr ≤ 4
unfolding rate_period
short_period cr =
    either (λ (n : ℕ). n ≤ 4) (eqb (fcrc cr) 0) (omega arith) (either (λ (n : ℕ). n ≤ 4) (eqb (fcrc cr) 1) (omega arith) (omega arith))

-- The levels that rule 2 remembers play no part in well-formedness, and none in blanking.
pub pins_ok : {n : ℕ} {s : Capture} (w : ℕ) → CaptureOk n s → CaptureOk n (remember_pins w s)
unfolding remember_pins with_syncs
pins_ok {s = s} w h = pins_syncs_ok _ s.syncs (omega arith) h

pub same_blanking : (s : Capture) (w : ℕ) {t : Capture} → t ≡ remember_pins w s → blanking t w ≡ blanking s w
unfolding blanking remember_pins with_pins
same_blanking s w e = rw e

-- An edge at which a sync blanks carries no pixel.
pub edge_blanked : (s : Capture) (now : Syncs) (x : ℕ) → any_blanks now ≡ true
    → unpadded_edge s now x ≡ no_word (with_syncs now (frame_start (unpadded_end (sync_flags s now) now) now))
unfolding unpadded_edge pixel_edge no_word
edge_blanked s now x blanks = let u = frame_start (unpadded_end (sync_flags s now) now) now in rw (no_pixel u.frame u now x blanks)

-- Where neither blanks no flag rises and no frame ends.
no_rise : (s : Capture) (f : Scan) → frame_rises s f not_blanking ≡ false
unfolding frame_rises hsync_after_window
no_rise s f =
    let none : not (window_ended s f) && (leb (lines_to_window_end s.registers) f.lines && false || false) ≡ false =
    rw (and_zero (leb (lines_to_window_end s.registers) f.lines), and_zero (not (window_ended s f))) in
    either (λ (b : Bool). b ≡ false) (crop s.registers.cr) none refl

not_due : (frame : Frame) (s : Capture) → frame_due frame s not_blanking ≡ false
unfolding frame_due
not_due Closed s = refl
not_due (Open taken f) s = rw (no_rise s f, and_zero taken)

pub plain_edge : (s : Capture) (x : ℕ)
    → unpadded_edge s not_blanking x
    ≡ (let p = pixel_in (frame_start s not_blanking).frame (frame_start s not_blanking) not_blanking x in record { state = with_syncs not_blanking p.state; word = p.word; due = false; error = false })
unfolding unpadded_edge pixel_edge unpadded_end frame_closes sync_flags line_flag vsync_flag
plain_edge s x = rw (and_zero (not s.syncs.vsync), and_zero (not s.syncs.hsync), not_due s.frame s)

pub neither : (now : Syncs) → any_blanks now ≡ false → now ≡ not_blanking
neither now e =
    let (h, v) = or_false now.hsync now.vsync e in
    λ i. record { hsync = h i; vsync = v i }
