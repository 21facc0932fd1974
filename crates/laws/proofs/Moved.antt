-- What rules 3 to 8 make of the capture state by the sync pins (`Moved`): a well-formed one stays so, with one more allowed in the bound on lines and pixels; CR stays but for
-- CAPTURE, OVR, ERR and the pins stay, and at most one datum is packed. The idea: rules 3 to 5 pack none (`Kept`), and rules 6 to 8 leave the registers. FRAME, where it is due after the
-- sample, changes none of this. Assumes nothing.
use mathlib.Core.Bool.{Bool, true, false, cond, ◌&&◌}
use Rattle.std.specs.Prelude.{Option, None, Some}
use mathlib.Core.Path.{◌≡◌, refl, ◌∙◌}
use Prim.Native.Nat.{ℕ, ◌+◌, ◌/◌, ◌≤◌}
use native.Mathlib.Omega.{arith}
use lib.Dec.{eqb, ltb}
use lib.Pow.{pow_pos}
use borrow.Author.Tests.{ltb-true, ltb-false}
use Rattle.bits.specs.Bits.{bit}
use Rattle.registers.specs.Control.{jpeg, edm}
use Rattle.packing.specs.Packing.{per_word}
use Rattle.packing.proofs.Lanes.{per_word_positive}
use Rattle.rules.specs.declared.Syncs.{Syncs}
use Rattle.rules.specs.declared.Scan.{Scan}
use Rattle.rules.specs.declared.Frame.{Frame}
use Rattle.rules.specs.declared.Frame.TheVariants.{Closed, Open}
use Rattle.rules.specs.declared.Capture.{Capture}
use Rattle.rules.specs.State.{no_partial, is_taken, with_pins, with_syncs, with_frame, with_partial, close_frame}
use Rattle.rules.specs.Capture.{Captured, no_word, any_blanks, sync_flags, padded, end_of, frame_closes, frame_pads, frame_end, frame_start, line_begins, next_pixel, captured, pack, pixel, pixel_in, pixel_edge, either_word, at_edge}
use Rattle.bits.proofs.Booleans.{and_true, or_true, by_cond, either}
use Rattle.rules.proofs.WellFormed.{CaptureOk}
use Rattle.laws.proofs.RegisterValues.{same_edm, same_jpeg, half_setup}
use Rattle.laws.proofs.Packing.{packed_partial}
use Rattle.laws.proofs.CaptureParts.{pins_syncs_ok, partial_ok, scan_ok}
use Rattle.laws.proofs.Kept.{Kept, kept, sync_flags_kept, frame_start_kept, early_kept}

-- Without a word something counted grows by at most 1; a word comes when it would reach q, and leaves it at 0.
abbrev pub Paced : ℕ → ℕ → ℕ → Option ℕ → Type 0
Paced q before after None = after ≤ before + 1
Paced q before after (Some v) = (q ≤ before + 1) × (after ≡ 0)

-- The working edges that a word takes at least: one for each datum; with JPEG two, that of a datum and the frame's end (W4).
unfoldable pub edges : ℕ → ℕ
edges cr = cond (jpeg cr) 2 (per_word (edm cr))

same_edges : (x y : ℕ) → x / 2 ≡ y / 2 → edges x ≡ edges y
unfolding edges
same_edges x y h = rw (same_jpeg x y (half_setup x y h), same_edm x y (half_setup x y h))

edges_least : (cr : ℕ) → edges cr ≤ per_word (edm cr)
unfolding edges per_word
edges_least cr = either (λ n. n ≤ per_word (edm cr)) (jpeg cr) (either (λ n. 2 ≤ n) (eqb (edm cr) 0) (omega arith) (omega arith)) (omega arith)

pub record Moved (s : Capture) (c : Captured) : Type 0 where
  pub ok : (n : ℕ) → CaptureOk n s → CaptureOk (n + 1) c.state
  pub half : c.state.registers.cr / 2 ≡ s.registers.cr / 2
  pub overrun : bit 1 c.state.registers.ris ≡ bit 1 s.registers.ris
  pub error : bit 2 c.state.registers.ris ≡ bit 2 s.registers.ris
  pub pins : c.state.pins ≡ s.pins
  pub paced : Paced (edges s.registers.cr) s.partial.count c.state.partial.count c.word

-- After rules that keep: the same of the state before them.
same_pace : (q p p' a : ℕ) (o : Option ℕ) → p' ≤ p → Paced q p' a o → Paced q p a o
same_pace q p p' a None le h = omega arith
same_pace q p p' a (Some v) le h = (omega arith, h.1)

after : {s t : Capture} {c : Captured} → Kept s t → Moved t c → Moved s c
after {s} {t} {c} k m =
    record {
      ok = λ n h. m.ok n (k.ok n h);
      half = m.half ∙ k.half;
      overrun = m.overrun ∙ k.overrun;
      error = m.error ∙ k.error;
      pins = m.pins ∙ k.pins;
      paced = same_pace _ _ _ _ c.word k.fewer (rw (same_edges _ _ k.half) at m.paced);
    }

pub grow : {n : ℕ} {s : Capture} → CaptureOk n s → CaptureOk (n + 1) s
unfolding with_pins with_syncs
grow {s = s} h = pins_syncs_ok s.pins s.syncs (omega arith) h

no_word_moved : {s t : Capture} → Kept s t → Moved s (no_word t)
unfolding no_word
no_word_moved k = record { ok = λ n h. grow (k.ok n h); half = k.half; overrun = k.overrun; error = k.error; pins = k.pins; paced = omega arith }

-- Rule 6.
next_pixel_ok : {n : ℕ} {s : Capture} (taken : Bool) (f : Scan) → s.frame ≡ Open taken f → CaptureOk n s
    → CaptureOk (n + 1) (with_frame (Open taken (next_pixel s f)) s)
unfolding next_pixel
next_pixel_ok {n} {s} taken f in_f h =
    let fl : f.lines ≤ n = rw in_f at h.lines in
    let fp : f.pixels ≤ n = rw in_f at h.pixels in
    either (λ (g : Scan). CaptureOk (n + 1) (with_frame (Open taken g) s)) (line_begins s f)
    (scan_ok taken f _ in_f (omega arith) (omega arith) h)
    (scan_ok taken f _ in_f (omega arith) (omega arith) h)

-- Rule 8: the well-formed state, and the pace.
pub pack_ok : {n : ℕ} {s : Capture} (x : ℕ) → is_taken s.frame ≡ true → CaptureOk n s → CaptureOk n (pack s x).state
unfolding pack no_word
pack_ok {n} {s} x taken h =
    let c = s.partial.count in
    let full = per_word (edm s.registers.cr) in
    by_cond (λ (r : Captured). CaptureOk n r.state) (ltb (c + 1) full) _ _
    (λ t. partial_ok _ (packed_partial s x h (ltb-true (c + 1) full t)) (ltb-true (c + 1) full t) (λ pos. taken) h)
    (λ t. partial_ok no_partial (pow_pos _) (per_word_positive _) (λ pos. taken) h)

record Packed (s : Capture) (c : Captured) : Type 0 where
  registers : c.state.registers ≡ s.registers
  pins : c.state.pins ≡ s.pins
  paced : Paced (edges s.registers.cr) s.partial.count c.state.partial.count c.word

pack_paced : (s : Capture) (x : ℕ) → Packed s (pack s x)
unfolding pack no_word with_partial
pack_paced s x =
    let p = s.partial.count in
    let q = per_word (edm s.registers.cr) in
    by_cond (Packed s) (ltb (p + 1) q) _ _
    (λ short. record { registers = refl; pins = refl; paced = omega arith })
    (λ full. record { registers = refl; pins = refl; paced = (omega (arith, ltb-false (p + 1) q full, edges_least s.registers.cr), refl) })

pixel_moved : (s : Capture) (taken : Bool) (f : Scan) (x : ℕ) → s.frame ≡ Open taken f → Moved s (pixel s taken f x)
unfolding pixel captured with_frame no_word
pixel_moved s taken f x in_f =
    let next = with_frame (Open taken (next_pixel s f)) s in
    let p = pack_paced next x in
    by_cond (Moved s) (captured s taken (next_pixel s f)) _ _
    (λ t.
    record {
      ok = λ n h. pack_ok x (and_true _ _ t).0 (next_pixel_ok taken f in_f h);
      half = rw p.registers;
      overrun = rw p.registers;
      error = rw p.registers;
      pins = p.pins;
      paced = p.paced;
    })
    (λ t. record { ok = λ n h. next_pixel_ok taken f in_f h; half = refl; overrun = refl; error = refl; pins = refl; paced = omega arith })

pub pixel_in_moved : (f : Frame) (s : Capture) (now : Syncs) (x : ℕ) → s.frame ≡ f → Moved s (pixel_in f s now x)
unfolding pixel_in
pixel_in_moved Closed s now x in_f = no_word_moved (kept s)
pixel_in_moved (Open taken f) s now x in_f = either (Moved s) (any_blanks now) (no_word_moved (kept s)) (pixel_moved s taken f x in_f)

-- W4: a frame's end pads a word with JPEG and a datum at least, and leaves none; VSYNC blanks.
abbrev Padding : Capture → Capture → Bool → Option ℕ → Type 0
Padding s t vsync None = Unit {0}
Padding s t vsync (Some v) = (jpeg s.registers.cr ≡ true) × (1 ≤ s.partial.count) × (t.partial.count ≡ 0) × (vsync ≡ true)

padded_padding : (f : Frame) (s : Capture) → Padding s (end_of f s) true (padded f s)
unfolding padded end_of close_frame with_partial with_frame
padded_padding Closed s = tt
padded_padding (Open taken f) s =
    let compressed = jpeg s.registers.cr in
    let some_data = ltb 0 s.partial.count in
    by_cond (Padding s (end_of (Open taken f) s) true) (taken && compressed && some_data) _ _
    (λ t.
    let (both, more) = and_true (taken && compressed) some_data t in
    ((and_true taken compressed both).1, ltb-true 0 s.partial.count more, refl, refl))
    (λ t. tt)

frame_pads_padding : (s : Capture) (now : Syncs) → Padding s (frame_closes s now) now.vsync (frame_pads s now)
unfolding frame_closes frame_pads
frame_pads_padding s now = go now.vsync
  where
    go : (vsync : Bool) → Padding s (cond vsync (end_of s.frame s) s) vsync (cond vsync (padded s.frame s) None)
    go true = padded_padding s.frame s
    go false = tt

-- Where a sync blanks there is no pixel.
pub no_pixel : (f : Frame) (s : Capture) (now : Syncs) (x : ℕ) → any_blanks now ≡ true → pixel_in f s now x ≡ no_word s
unfolding pixel_in
no_pixel Closed s now x e = refl
no_pixel (Open taken f) s now x e = rw e

-- Rules 3 to 8.
edge_paced : (s : Capture) (now : Syncs) (x : ℕ) → (o : Option ℕ) → Padding (sync_flags s now) (frame_closes (sync_flags s now) now) now.vsync o
    → let u = frame_start (frame_closes (sync_flags s now) now) now in
    let p = pixel_in u.frame u now x in Moved s p
    → Paced (edges s.registers.cr) s.partial.count p.state.partial.count (either_word o p.word)
unfolding either_word no_word edges
edge_paced s now x None h m = m.paced
edge_paced s now x (Some v) h m =
    let t = sync_flags s now in
    let k = sync_flags_kept s now in
    let u = frame_start (frame_closes t now) now in
    let (compressed, one, empty, blanks) = h in
    let some_blanks : any_blanks now ≡ true = rw blanks (or_true now.hsync) in
    let none_left : u.partial.count ≤ (frame_closes t now).partial.count = (frame_start_kept (frame_closes t now) now).fewer in
    let same : edges s.registers.cr ≡ 2 = rw (← same_edges t.registers.cr s.registers.cr k.half, compressed) in
    (rw same (omega (arith, one, k.fewer)), rw (no_pixel u.frame u now x some_blanks) (omega (arith, none_left, empty)))

pub at_edge_moved : (s : Capture) (now : Syncs) (x : ℕ) → Moved s (at_edge s now x)
unfolding at_edge frame_end pixel_edge with_syncs with_pins
at_edge_moved s now x =
    let t = sync_flags s now in
    let u = frame_start (frame_closes t now) now in
    let m = after (early_kept s now) (pixel_in_moved u.frame u now x refl) in
    record {
      ok = λ n h. pins_syncs_ok (pixel_in u.frame u now x).state.pins now (omega arith) (m.ok n h);
      half = m.half;
      overrun = m.overrun;
      error = m.error;
      pins = m.pins;
      paced = edge_paced s now x (frame_pads t now) (frame_pads_padding t now) m;
    }
