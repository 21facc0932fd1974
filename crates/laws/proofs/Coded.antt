-- What rules 3 to 8 make of the capture state by codes (W6): a well-formed one stays so, with one more allowed in the bound on lines and pixels; CR stays but for CAPTURE, the
-- pins and OVR stay, and ERR does unless it is said to rise (`Left`). Assumes nothing.
use mathlib.Core.Bool.{Bool, true, false, true≢false}
use mathlib.Core.List.{List, [], ◌∷◌}
use Rattle.std.specs.Prelude.{Option, None, Some}
use mathlib.Core.Path.{◌≡◌, refl, sym, ◌∙◌}
use Prim.Native.Nat.{ℕ, suc, ◌+◌, ◌/◌, ◌≤◌, ◌<◌}
use native.Mathlib.Nat.{sub-le}
use native.Mathlib.Omega.{arith}
use lib.Dec.{ltb}
use borrow.Author.Tests.{ltb-false}
use lib.ListN.{length}
use Rattle.bits.specs.Bits.{bit}
use Rattle.bits.proofs.Booleans.{and_true, by_cond, either}
use Rattle.registers.specs.Control.{capture, edm, enable}
use Rattle.packing.specs.Packing.{per_word}
use Rattle.codes.specs.declared.Waiting.{Waiting}
use Rattle.codes.specs.declared.Waiting.TheVariants.{Zero}
use Rattle.codes.specs.declared.Meaning.{Meaning}
use Rattle.codes.specs.Bytes.{waiting_count, is_code, waiting_after, released}
use Rattle.codes.specs.Meaning.{meaning}
use Rattle.rules.specs.declared.Syncs.{Syncs}
use Rattle.rules.specs.declared.Scan.{Scan}
use Rattle.rules.specs.declared.Frame.{Frame}
use Rattle.rules.specs.declared.Frame.TheVariants.{Closed, Open}
use Rattle.rules.specs.declared.Capture.{Capture}
use Rattle.rules.specs.State.{is_taken, not_blanking, no_partial, raise, close_frame, with_syncs, with_pins, with_frame, with_rate, with_partial, with_waiting, with_registers, with_ris}
use Rattle.rules.specs.Capture.{Captured, no_word, next_rate, takes, captured, packed_bits, pack, rate_period, either_word}
use Rattle.rules.specs.Codes.{coded_syncs, arrived, before, datum, each_datum, byte_in, taken_out, first_place, frame_opens, line_opens, closes, errs, at_code, at_byte, frame_ended}
use Rattle.rules.specs.WellFormed.{unused_bits}
use Rattle.rules.proofs.WellFormed.{CaptureOk}
use Rattle.bits.proofs.Raised.{raised_other}
use Rattle.laws.proofs.RegisterValues.{half_enable}
use Rattle.laws.proofs.CaptureParts.{none_partial, pins_syncs_ok, scan_ok, raise_ok, close_frame_ok}
use Rattle.laws.proofs.Kept.{Kept, kept, then, sync_flags_kept, frame_closes_kept, next_rate_fits}
use Rattle.laws.proofs.Moved.{pack_ok, grow}
use Rattle.laws.proofs.ByCode.{by_code}

pub record Left (s : Capture) (c : Captured) : Type 0 where
  pub ok : (n : ℕ) → CaptureOk n s → CaptureOk (n + 1) c.state
  pub half : c.state.registers.cr / 2 ≡ s.registers.cr / 2
  pub overrun : bit 1 c.state.registers.ris ≡ bit 1 s.registers.ris
  pub error : c.error ≡ false → bit 2 c.state.registers.ris ≡ bit 2 s.registers.ris
  pub pins : c.state.pins ≡ s.pins

-- A state that is kept, whatever is said of it.
pub kept_left : {s : Capture} {c : Captured} → Kept s c.state → Left s c
kept_left k = record { ok = λ n h. grow (k.ok n h); half = k.half; overrun = k.overrun; error = λ e. k.error; pins = k.pins }

after_kept : {s t : Capture} {c : Captured} → Kept s t → Left t c → Left s c
after_kept k m =
    record { ok = λ n h. m.ok n (k.ok n h); half = m.half ∙ k.half; overrun = m.overrun ∙ k.overrun; error = λ e. m.error e ∙ k.error; pins = m.pins ∙ k.pins }

-- Other syncs, and another number of bytes waiting.
syncs_kept : (y : Syncs) (s : Capture) → Kept s (with_syncs y s)
unfolding with_syncs with_pins
syncs_kept y s = record { ok = λ n h. pins_syncs_ok s.pins y (omega arith) h; half = refl; overrun = refl; error = refl; pins = refl; fewer = omega arith }

pub waiting_ok : {n : ℕ} {s : Capture} (k : Waiting) → CaptureOk n s → CaptureOk n (with_waiting k s)
unfolding with_waiting unused_bits
waiting_ok k h =
    record {
      unused = h.unused;
      short = h.short;
      allowed = h.allowed;
      ris = h.ris;
      ier = h.ier;
      idle = h.idle;
      inside = h.inside;
      rate = h.rate;
      lines = h.lines;
      pixels = h.pixels;
    }

waiting_kept : (k : Waiting) (s : Capture) → Kept s (with_waiting k s)
unfolding with_waiting
waiting_kept k s = record { ok = λ n h. waiting_ok k h; half = refl; overrun = refl; error = refl; pins = refl; fewer = omega arith }

-- Three bytes taken out of their line.
pub taken_out_kept : (f : Frame) (s : Capture) → s.frame ≡ f → Kept s (taken_out f s)
unfolding taken_out before with_frame
taken_out_kept Closed s in_f = kept s
taken_out_kept (Open taken f) s in_f =
    either (Kept s) s.syncs.hsync (kept s)
    (record {
      ok = λ n h. scan_ok taken f _ in_f (rw in_f at h.lines) (omega (arith, sub-le f.pixels 3, rw in_f at h.pixels)) h;
      half = refl;
      overrun = refl;
      error = refl;
      pins = refl;
      fewer = omega arith;
    })

-- A frame opens where none is and ENABLE is 1.
open_left : (s : Capture) (taken : Bool) (rate : ℕ) → s.frame ≡ Closed → enable s.registers.cr ≡ true → rate < rate_period s.registers.cr
    → (n : ℕ) → CaptureOk n s → CaptureOk (n + 1) (with_rate rate (with_frame (Open taken first_place) s))
unfolding with_rate with_frame first_place unused_bits
open_left s taken rate closed on fits n h =
    record {
      unused = h.unused;
      short = h.short;
      allowed = h.allowed;
      ris = h.ris;
      ier = h.ier;
      idle = λ off. absurd (true≢false (sym on ∙ off));
      inside = λ pos. absurd (omega (arith, none_partial s.frame s.partial.count h.inside (rw closed)));
      rate = fits;
      lines = omega arith;
      pixels = omega arith;
    }

frame_opens_left : (s : Capture) → s.frame ≡ Closed → enable s.registers.cr ≡ true → Left s (no_word (frame_opens s))
unfolding frame_opens no_word with_rate with_frame with_syncs with_pins
frame_opens_left s closed on =
    either (λ (t : Capture). Left s (no_word (with_syncs not_blanking t))) (capture s.registers.cr)
    (record {
      ok = λ n h. pins_syncs_ok s.pins not_blanking (omega arith) (open_left s (takes s) (next_rate s) closed on (next_rate_fits s h.rate) n h);
      half = refl;
      overrun = refl;
      error = λ e. refl;
      pins = refl;
    })
    (record {
      ok = λ n h. pins_syncs_ok s.pins not_blanking (omega arith) (open_left s false s.rate closed on h.rate n h);
      half = refl;
      overrun = refl;
      error = λ e. refl;
      pins = refl;
    })

-- A line opens.
line_opens_left : (s : Capture) (taken : Bool) (f : Scan) → s.frame ≡ Open taken f → Left s (no_word (line_opens taken f s))
unfolding line_opens no_word with_frame with_syncs with_pins
line_opens_left s taken f in_f =
    record {
      ok = λ n h. pins_syncs_ok s.pins not_blanking (omega arith) (scan_ok {n = n + 1} taken f _ in_f (omega (arith, rw in_f at h.lines)) (omega arith) h);
      half = refl;
      overrun = refl;
      error = λ e. refl;
      pins = refl;
    }

-- An end code.
closes_left : (s : Capture) (now : Syncs) → Left s (closes s now)
unfolding closes
closes_left s now =
    let u = with_syncs (coded_syncs s) s in
    let flags = either (Kept u) (capture s.registers.cr) (sync_flags_kept u now) (kept u) in
    kept_left (then (syncs_kept (coded_syncs s) s) (then flags (then (frame_closes_kept _ now) (syncs_kept now _))))

-- ERR.
errs_left : (s : Capture) → Left s (errs s)
unfolding errs close_frame with_frame with_partial with_syncs with_pins raise with_registers with_ris
errs_left s =
    record {
      ok = λ n h. raise_ok 2 (omega arith) (pins_syncs_ok s.pins not_blanking (omega arith) (close_frame_ok h));
      half = refl;
      overrun = raised_other 1 2 s.registers.ris (omega arith);
      error = λ e. absurd (true≢false e);
      pins = refl;
    }

still_left : {s t : Capture} → Kept s t → Left s (no_word t)
unfolding no_word
still_left k = kept_left k

-- Every code.
at_code_left : (m : Meaning) (s : Capture) → enable s.registers.cr ≡ true → Left s (at_code m s)
at_code_left m s on =
    by_code (Left s) s (still_left (kept s)) (closes_left s) (errs_left s) (λ e. frame_opens_left s e on) (line_opens_left s) (λ e. still_left (syncs_kept frame_ended s)) m

-- Data of an open line, in order: the partial word alone changes. Without a word so many join it at most; a word comes where they reach so many as it takes, and the last
-- of them at most are left.
abbrev pub Grown : ℕ → ℕ → ℕ → ℕ → Option ℕ → Type 0
Grown q many count after None = after ≤ count + many
Grown q many count after (Some v) = (q ≤ count + many) × (after + 1 ≤ many)

pub record Joined (s : Capture) (many : ℕ) (c : Captured) : Type 0 where
  pub registers : c.state.registers ≡ s.registers
  pub pins : c.state.pins ≡ s.pins
  pub waiting : c.state.waiting ≡ s.waiting
  pub frame : c.state.frame ≡ s.frame
  pub ok : (n : ℕ) → CaptureOk n s → CaptureOk n c.state
  pub grown : Grown (per_word (edm s.registers.cr)) many s.partial.count c.state.partial.count c.word

none_joined : (s : Capture) (many : ℕ) → Joined s many (no_word s)
unfolding no_word
none_joined s many = record { registers = refl; pins = refl; waiting = refl; frame = refl; ok = λ n h. h; grown = omega arith }

pack_joined : (s : Capture) (x : ℕ) → is_taken s.frame ≡ true → Joined s 1 (pack s x)
unfolding pack no_word with_partial
pack_joined s x taken =
    let p = s.partial.count in
    let q = per_word (edm s.registers.cr) in
    let short = ltb (p + 1) q in
    let part : Captured = no_word (with_partial (record { count = p + 1; bits = packed_bits s x }) s) in
    let full : Captured = record { state = with_partial no_partial s; word = Some (packed_bits s x); due = false; error = false } in
    record {
      registers = either {x = part} {y = full} (λ (c : Captured). c.state.registers ≡ s.registers) short refl refl;
      pins = either {x = part} {y = full} (λ (c : Captured). c.state.pins ≡ s.pins) short refl refl;
      waiting = either {x = part} {y = full} (λ (c : Captured). c.state.waiting ≡ s.waiting) short refl refl;
      frame = either {x = part} {y = full} (λ (c : Captured). c.state.frame ≡ s.frame) short refl refl;
      ok = λ n h. pack_ok x taken h;
      grown = by_cond (λ (c : Captured). Grown q 1 p c.state.partial.count c.word) short part full (λ t. omega arith) (λ t. (omega (arith, ltb-false (p + 1) q t), omega arith));
    }

pub datum_joined : (s : Capture) (taken : Bool) (f g : Scan) (x : ℕ) → s.frame ≡ Open taken g → Joined s 1 (datum s taken f x)
unfolding datum captured
datum_joined s taken f g x in_g =
    by_cond (Joined s 1) (captured s taken f) _ _
    (λ t. pack_joined s x (rw in_g (and_true _ _ t).0))
    (λ t. none_joined s 1)

joined_then : (s : Capture) (many : ℕ) (c r : Captured) → Joined s 1 c → Joined c.state many r
    → Joined s (suc many) (record { state = r.state; word = either_word c.word r.word; due = false; error = false })
unfolding either_word
joined_then s many c r a b =
    record {
      registers = b.registers ∙ a.registers;
      pins = b.pins ∙ a.pins;
      waiting = b.waiting ∙ a.waiting;
      frame = b.frame ∙ a.frame;
      ok = λ n h. b.ok n (a.ok n h);
      grown = go _ c.word r.word a.grown (rw a.registers at b.grown);
    }
  where
    go : (q : ℕ) (v u : Option ℕ) → Grown q 1 s.partial.count c.state.partial.count v
        → Grown q many c.state.partial.count r.state.partial.count u
        → Grown q (suc many) s.partial.count r.state.partial.count (either_word v u)
    go q None None g h = omega arith
    go q None (Some u) g h = (omega arith, omega arith)
    go q (Some v) None g h = (omega arith, omega arith)
    go q (Some v) (Some u) g h = (omega arith, omega arith)

pub each_joined : (s : Capture) (taken : Bool) (f g : Scan) (xs : List ℕ) (still : ℕ) → s.frame ≡ Open taken g
    → Joined s (length xs) (each_datum s taken f xs still)
unfolding each_datum
each_joined s taken f g [] still in_g = none_joined s 0
each_joined s taken f g (x ∷ xs) still in_g =
    let c = datum s taken (before (length xs + still) f) x in
    let a = datum_joined s taken (before (length xs + still) f) g x in_g in
    joined_then s (length xs) c (each_datum c.state taken f xs still) a (each_joined c.state taken f g xs still (a.frame ∙ in_g))

-- A byte that is not the last of a code.
byte_in_left : (f : Frame) (s : Capture) (x : ℕ) → s.frame ≡ f → Left s (byte_in f s x)
unfolding byte_in no_word with_waiting with_frame arrived
byte_in_left Closed s x in_f = kept_left (waiting_kept (waiting_after s.waiting x) s)
byte_in_left (Open taken f) s x in_f =
    let still = waiting_after s.waiting x in
    let t = with_waiting still (with_frame (Open taken (arrived f)) s) in
    let j = each_joined t taken (arrived f) (arrived f) (released s.waiting x) (waiting_count still) refl in
    either (Left s) s.syncs.hsync (kept_left (waiting_kept still s))
    (record {
      ok = λ n h. j.ok (n + 1) (waiting_ok still (scan_ok taken f (arrived f) in_f (omega (arith, rw in_f at h.lines)) (omega (arith, rw in_f at h.pixels)) h));
      half = rw j.registers;
      overrun = rw j.registers;
      error = λ e. rw j.registers;
      pins = j.pins;
    })

pub at_byte_left : (s : Capture) (x : ℕ) → enable s.registers.cr ≡ true → Left s (at_byte s x)
unfolding at_byte
at_byte_left s x on =
    let k = then (taken_out_kept s.frame s refl) (waiting_kept Zero _) in
    either (Left s) (is_code s.waiting)
    (after_kept k (at_code_left (meaning s.registers.escr s.registers.esur x) _ (half_enable _ _ k.half ∙ on)))
    (byte_in_left s.frame s x refl)
