-- With ESS 1 the sync pins play no part but in the remembered levels (W6): from two devices that differ in these at most, two samples that differ in bits 14 and 15 at most make the same but for
-- these (`sync_pins_ignored`), and so do lists of samples, after each (`sync_pins_ignored_by_all`). The idea: no rule from 3 on reads the levels, and with ESS 1 none reads the pins.
-- Assumes nothing.
use mathlib.Core.Bool.{Bool, true, false, cond, not, ◌&&◌}
use mathlib.Core.List.{List, [], ◌∷◌, map}
use Rattle.std.specs.Prelude.{Option, None, Some}
use mathlib.Core.Path.{◌≡◌, refl, sym, ap, ◌∙◌}
use Prim.Native.Nat.{ℕ, ◌+◌, ◌%◌}
use lib.Dec.{ltb}
use lib.ListN.{length}
use Rattle.registers.specs.Control.{capture, snapshot, embedded, pckpol, edm}
use Rattle.packing.specs.Packing.{per_word}
use Rattle.samples.specs.Samples.{pixel_data, clock_pin, bus_grant}
use Rattle.output.specs.declared.Fate.{Fate}
use Rattle.output.specs.declared.Fate.TheVariants.{Held, Lost}
use Rattle.output.specs.Output.{OutputState, grant, offer, counted}
use Rattle.codes.specs.declared.Waiting.TheVariants.{Zero}
use Rattle.codes.specs.declared.Meaning.{Meaning}
use Rattle.codes.specs.declared.Meaning.TheVariants.{FrameEnd, FrameStart, LineEnd, LineStart, Unmatched}
use Rattle.codes.specs.Bytes.{waiting_count, is_code, waiting_after, released}
use Rattle.codes.specs.Meaning.{meaning, by_line_starts}
use Rattle.rules.specs.declared.Pins.{Pins}
use Rattle.rules.specs.declared.Syncs.{Syncs}
use Rattle.rules.specs.declared.Scan.{Scan}
use Rattle.rules.specs.declared.Frame.{Frame}
use Rattle.rules.specs.declared.Frame.TheVariants.{Closed, Open}
use Rattle.rules.specs.declared.Capture.{Capture}
use Rattle.rules.specs.declared.Device.{Device}
use Rattle.rules.specs.State.{device, capture_of, output_of, is_open, not_blanking, raise, clear_capture, close_frame, with_cr, with_ris, with_registers, with_pins, with_syncs, with_frame, with_rate, with_partial, with_waiting}
use Rattle.rules.specs.Capture.{Captured, no_word, flagged, working_edge, enabled, remember_pins, vsync_flag, line_flag, sync_flags, window_ended, hsync_after_window, frame_rises, frame_due, end_of, frame_closes, next_rate, takes, in_window, captured, packed_bits, pack, either_word}
use Rattle.rules.specs.Codes.{in_line, coded_syncs, seeks, arrived, before, datum, each_datum, byte_in, taken_out, frame_opens, line_opens, closes, errs, line_start, obeyed, sought, at_code, at_byte, line_ended, frame_ended}
use Rattle.rules.specs.Sample.{byte_of, edge, capture_sample}
use Rattle.rules.specs.Run.{lose_frame, Completed, after_word, complete, after_grant, Stepped, step}
use Rattle.laws.specs.Before.{stepped_by}
use Rattle.laws.specs.SyncPins.{without_levels, unleveled, stepped_unleveled, SameButSyncs, AllSameButSyncs}
use Rattle.laws.proofs.RegisterValues.{same_embedded, half_setup}
use Rattle.laws.proofs.KeepsSample.{step_half}

-- What the rules make of a state, with other levels.
abbrev repinned : Pins → Captured → Captured
repinned p c = record { state = with_pins p c.state; word = c.word; due = c.due; error = c.error }

-- A choice, and each part.
chosen : (p : Pins) (b : Bool) (c c' e e' : Captured) → c' ≡ repinned p c → e' ≡ repinned p e → cond b c' e' ≡ repinned p (cond b c e)
chosen p true c c' e e' h k = h
chosen p false c c' e e' h k = k

chosen_state : (p : Pins) (b : Bool) (s s' t t' : Capture) → s' ≡ with_pins p s → t' ≡ with_pins p t → cond b s' t' ≡ with_pins p (cond b s t)
chosen_state p true s s' t t' h k = h
chosen_state p false s s' t t' h k = k

module _ (p : Pins) where
  vsync_flag_pins : (s : Capture) (now : Syncs) → vsync_flag (with_pins p s) now ≡ with_pins p (vsync_flag s now)
  unfolding vsync_flag raise with_registers with_ris with_pins
  vsync_flag_pins s now = chosen_state p (not s.syncs.vsync && now.vsync) (raise 3 s) _ s _ refl refl

  line_flag_pins : (s : Capture) (now : Syncs) → line_flag (with_pins p s) now ≡ with_pins p (line_flag s now)
  unfolding line_flag raise with_registers with_ris with_pins
  line_flag_pins s now = chosen_state p (not s.syncs.hsync && now.hsync) (raise 4 s) _ s _ refl refl

  sync_flags_pins : (s : Capture) (now : Syncs) → sync_flags (with_pins p s) now ≡ with_pins p (sync_flags s now)
  unfolding sync_flags
  sync_flags_pins s now = ap (λ t. line_flag t now) (vsync_flag_pins s now) ∙ line_flag_pins (vsync_flag s now) now

  end_of_pins : (f : Frame) (s : Capture) → end_of f (with_pins p s) ≡ with_pins p (end_of f s)
  unfolding end_of close_frame with_partial with_frame clear_capture with_registers with_cr with_pins
  end_of_pins Closed s = refl
  end_of_pins (Open taken f) s =
      ap close_frame (chosen_state p (taken && snapshot s.registers.cr) (clear_capture s) _ s _ refl refl)

  frame_closes_pins : (s : Capture) (now : Syncs) → frame_closes (with_pins p s) now ≡ with_pins p (frame_closes s now)
  unfolding frame_closes with_pins
  frame_closes_pins s now = chosen_state p now.vsync (end_of s.frame s) _ s _ (end_of_pins s.frame s) refl

  due_pins : (f : Frame) (s : Capture) (now : Syncs) → frame_due f (with_pins p s) now ≡ frame_due f s now
  unfolding frame_due frame_rises window_ended hsync_after_window with_pins
  due_pins Closed s now = refl
  due_pins (Open taken f) s now = refl

  closes_pins : (s : Capture) (now : Syncs) → closes (with_pins p s) now ≡ repinned p (closes s now)
  unfolding closes coded_syncs in_line with_syncs with_pins
  closes_pins s now =
      let u = with_syncs (coded_syncs s) s in
      let flags : cond (capture s.registers.cr) (sync_flags (with_pins p u) now) (with_pins p u) ≡ with_pins p (cond (capture s.registers.cr) (sync_flags u now) u) =
      chosen_state p (capture s.registers.cr) (sync_flags u now) _ u _ (sync_flags_pins u now) refl in
      let closed = ap (λ t. frame_closes t now) flags ∙ frame_closes_pins _ now in
      λ i. record { state = with_syncs now (closed i); word = None; due = due_pins s.frame u now i; error = false }

  errs_pins : (s : Capture) → errs (with_pins p s) ≡ repinned p (errs s)
  unfolding errs raise close_frame with_frame with_partial with_syncs with_registers with_ris with_pins
  errs_pins s = refl

  opens_pins : (s : Capture) → no_word (frame_opens (with_pins p s)) ≡ repinned p (no_word (frame_opens s))
  unfolding frame_opens no_word next_rate takes with_syncs with_rate with_frame with_pins
  opens_pins s =
      ap (λ t. no_word (with_syncs not_blanking t))
      (chosen_state p (capture s.registers.cr) (with_rate (next_rate s) (with_frame (Open (takes s) _) s)) _ (with_frame (Open false _) s) _ refl refl)

  line_start_pins : (f : Frame) (s : Capture) → line_start f (with_pins p s) ≡ repinned p (line_start f s)
  unfolding line_start no_word line_opens in_line with_syncs with_frame with_pins
  line_start_pins Closed s = chosen p (by_line_starts s.registers.escr) _ _ _ _ (opens_pins s) (errs_pins s)
  line_start_pins (Open taken f) s = chosen p (in_line s) (errs s) _ (no_word (line_opens taken f s)) _ (errs_pins s) refl

  obeyed_pins : (m : Meaning) (s : Capture) → obeyed m (with_pins p s) ≡ repinned p (obeyed m s)
  unfolding obeyed no_word in_line with_pins
  obeyed_pins FrameEnd s = chosen p (is_open s.frame) (closes s frame_ended) _ (no_word s) _ (closes_pins s frame_ended) refl
  obeyed_pins FrameStart s = chosen p (is_open s.frame) (errs s) _ (no_word (frame_opens s)) _ (errs_pins s) (opens_pins s)
  obeyed_pins LineEnd s = chosen p (in_line s) (closes s line_ended) _ (errs s) _ (closes_pins s line_ended) (errs_pins s)
  obeyed_pins LineStart s = line_start_pins s.frame s
  obeyed_pins Unmatched s = refl

  sought_pins : (m : Meaning) (s : Capture) → no_word (sought m (with_pins p s)) ≡ repinned p (no_word (sought m s))
  unfolding sought no_word with_syncs with_pins
  sought_pins FrameEnd s = ap no_word (chosen_state p (by_line_starts s.registers.escr) (with_syncs frame_ended s) _ s _ refl refl)
  sought_pins FrameStart s = opens_pins s
  sought_pins LineEnd s = refl
  sought_pins LineStart s = refl
  sought_pins Unmatched s = refl

  at_code_pins : (m : Meaning) (s : Capture) → at_code m (with_pins p s) ≡ repinned p (at_code m s)
  unfolding at_code seeks with_pins
  at_code_pins m s = chosen p (seeks s) (no_word (sought m s)) _ (obeyed m s) _ (sought_pins m s) (obeyed_pins m s)

  datum_pins : (s : Capture) (taken : Bool) (f : Scan) (x : ℕ) → datum (with_pins p s) taken f x ≡ repinned p (datum s taken f x)
  unfolding datum captured in_window pack packed_bits no_word with_partial with_pins
  datum_pins s taken f x =
      chosen p (captured s taken f) (pack s x) _ (no_word s) _
      (chosen p (ltb (s.partial.count + 1) (per_word (edm s.registers.cr))) (no_word _) _ (record { state = _; word = Some (packed_bits s x); due = false; error = false }) _ refl refl)
      refl

  each_pins : (s : Capture) (taken : Bool) (f : Scan) (xs : List ℕ) (still : ℕ) → each_datum (with_pins p s) taken f xs still ≡ repinned p (each_datum s taken f xs still)
  unfolding each_datum no_word with_pins
  each_pins s taken f [] still = refl
  each_pins s taken f (x ∷ xs) still =
      let g = before (length xs + still) f in
      let c = datum s taken g x in
      ap (λ (c : Captured). let r = each_datum c.state taken f xs still in record { state = r.state; word = either_word c.word r.word; due = false; error = false }) (datum_pins s taken g x) ∙
      ap (λ (r : Captured). record { state = r.state; word = either_word c.word r.word; due = false; error = false }) (each_pins c.state taken f xs still)

  byte_in_pins : (f : Frame) (s : Capture) (x : ℕ) → byte_in f (with_pins p s) x ≡ repinned p (byte_in f s x)
  unfolding byte_in no_word with_waiting with_frame with_pins
  byte_in_pins Closed s x = refl
  byte_in_pins (Open taken f) s x =
      let still = waiting_after s.waiting x in
      chosen p s.syncs.hsync (no_word (with_waiting still s)) _ _ _ refl
      (each_pins (with_waiting still (with_frame (Open taken (arrived f)) s)) taken (arrived f) (released s.waiting x) (waiting_count still))

  taken_out_pins : (f : Frame) (s : Capture) → taken_out f (with_pins p s) ≡ with_pins p (taken_out f s)
  unfolding taken_out with_frame with_pins
  taken_out_pins Closed s = refl
  taken_out_pins (Open taken f) s = chosen_state p s.syncs.hsync s _ _ _ refl refl

  at_byte_pins : (s : Capture) (x : ℕ) → at_byte (with_pins p s) x ≡ repinned p (at_byte s x)
  unfolding at_byte with_waiting with_pins
  at_byte_pins s x =
      let m = meaning s.registers.escr s.registers.esur x in
      chosen p (is_code s.waiting) _ _ _ _
      (ap (λ t. at_code m (with_waiting Zero t)) (taken_out_pins s.frame s) ∙ at_code_pins m (with_waiting Zero (taken_out s.frame s)))
      (byte_in_pins s.frame s x)

  -- Rule 9.
  flagged_pins : (c : Captured) → flagged (repinned p c) ≡ with_pins p (flagged c)
  unfolding flagged raise with_registers with_ris with_pins
  flagged_pins c = chosen_state p c.due (raise 0 c.state) _ c.state _ refl refl

  lose_frame_pins : (s : Capture) → lose_frame (with_pins p s) ≡ with_pins p (lose_frame s)
  unfolding lose_frame close_frame with_partial with_frame clear_capture raise with_registers with_cr with_ris with_pins
  lose_frame_pins s = ap close_frame (chosen_state p (snapshot s.registers.cr) (clear_capture (raise 1 s)) _ (raise 1 s) _ refl refl)

  completed_pins : Completed → Completed
  completed_pins r = record { device = device (with_pins p r.device.core.capture) (output_of r.device); packed = r.packed }

  after_word_pins : (f : Fate) (v : ℕ) (c : Captured) (x : OutputState) → after_word f v (repinned p c) x ≡ completed_pins (after_word f v c x)
  unfolding after_word completed_pins
  after_word_pins Held v c x = rw (flagged_pins c)
  after_word_pins Lost v c x = rw (lose_frame_pins c.state)

  complete_pins : (o : Option ℕ) (c : Captured) (x : OutputState) → complete o (repinned p c) x ≡ completed_pins (complete o c x)
  unfolding complete completed_pins
  complete_pins None c x = rw (flagged_pins c)
  complete_pins (Some v) c x = after_word_pins (offer v x).fate v c (offer v x).state

-- A sample with ESS 1, by its data, clock and grant alone, of a state whose levels are taken as 0: what is left of it without its own levels.
by_byte : Capture → ℕ → Bool → Captured
by_byte s x k = cond (cond (pckpol s.registers.cr) (not s.pins.clock && k) (s.pins.clock && not k) && enabled s) (at_byte s (x % 256)) (no_word s)

seen : Bool → Pins
seen k = record { hsync = false; vsync = false; clock = k }

by_data : Device → List ℕ → ℕ → Bool → Bool → Stepped
by_data d b x k granted =
    let s = capture_of d in
    let g = grant granted (enabled s) (counted (output_of d)) b in
    let c = by_byte s x k in
    let r = complete c.word c g.state in
    record { device = device (with_pins (seen k) r.device.core.capture) (output_of r.device); buffer = g.buffer; landing = g.landing; packed = r.packed }

by_byte_pins : (s : Capture) (x : ℕ) (k : Bool) → by_byte (without_levels s) x k ≡ repinned (seen s.pins.clock) (by_byte s x k)
unfolding by_byte seen no_word without_levels with_pins
by_byte_pins s x k =
    let p = seen s.pins.clock in
    chosen p (cond (pckpol s.registers.cr) (not s.pins.clock && k) (s.pins.clock && not k) && enabled s) (at_byte s (x % 256)) _ (no_word s) _ (at_byte_pins p s (x % 256)) refl

sample_by_byte : (s : Capture) (w : ℕ) → embedded s.registers.cr ≡ true
    → capture_sample s w ≡ repinned (remember_pins w s).pins (by_byte s (pixel_data w) (clock_pin w))
unfolding capture_sample edge byte_of working_edge by_byte remember_pins no_word with_pins
sample_by_byte s w coded =
    rw coded (chosen (remember_pins w s).pins (working_edge s w && enabled s) (at_byte s (byte_of w)) _ (no_word s) _ (at_byte_pins (remember_pins w s).pins s (byte_of w)) refl)

step_by_data : (d : Device) (b : List ℕ) (w : ℕ) → embedded d.core.capture.registers.cr ≡ true
    → stepped_unleveled (step d b w) ≡ by_data (unleveled d) b (pixel_data w) (clock_pin w) (bus_grant w)
unfolding step after_grant by_data seen stepped_unleveled unleveled without_levels completed_pins remember_pins with_pins
step_by_data d b w coded =
    let s = capture_of d in
    let k = clock_pin w in
    let g = grant (bus_grant w) (enabled s) (counted (output_of d)) b in
    let c = by_byte s (pixel_data w) k in
    let made : Completed → Stepped =
    λ r. record { device = device (with_pins (seen k) r.device.core.capture) (output_of r.device); buffer = g.buffer; landing = g.landing; packed = r.packed } in
    let left : Captured → Stepped = λ c. stepped_unleveled (record { device = (complete c.word c g.state).device; buffer = g.buffer; landing = g.landing; packed = (complete c.word c g.state).packed }) in
    ap left (sample_by_byte s w coded) ∙
    (ap (λ (r : Completed). stepped_unleveled (record { device = r.device; buffer = g.buffer; landing = g.landing; packed = r.packed })) (complete_pins (remember_pins w s).pins c.word c g.state) ∙
    sym
    (ap (λ (c : Captured). made (complete c.word c g.state)) (by_byte_pins s (pixel_data w) k) ∙
    ap made (complete_pins (seen s.pins.clock) c.word c g.state)))

pub sync_pins_ignored : (d d' : Device) (b : List ℕ) (w w' : ℕ) → embedded d.core.capture.registers.cr ≡ true → unleveled d ≡ unleveled d' → SameButSyncs w w'
    → stepped_unleveled (step d b w) ≡ stepped_unleveled (step d' b w')
unfolding unleveled without_levels with_pins
sync_pins_ignored d d' b w w' coded same e =
    let same_cr : d'.core.capture.registers.cr ≡ d.core.capture.registers.cr = sym (ap (λ (x : Device). x.core.capture.registers.cr) same) in
    step_by_data d b w coded ∙ (rw (same, e.data_bits, e.clock, e.grant) (sym (step_by_data d' b w' (rw same_cr coded))))

pub sync_pins_ignored_by_all : (d d' : Device) (b ws ws' : List ℕ) → embedded d.core.capture.registers.cr ≡ true → unleveled d ≡ unleveled d' → AllSameButSyncs ws ws'
    → map stepped_unleveled (stepped_by step d b ws) ≡ map stepped_unleveled (stepped_by step d' b ws')
unfolding stepped_by stepped_unleveled
sync_pins_ignored_by_all d d' b [] [] coded same e = refl
sync_pins_ignored_by_all d d' b [] (w' ∷ ws') coded same e = absurd e
sync_pins_ignored_by_all d d' b (w ∷ ws) [] coded same e = absurd e
sync_pins_ignored_by_all d d' b (w ∷ ws) (w' ∷ ws') coded same e =
    let r = step d b w in
    let r' = step d' b w' in
    let here = sync_pins_ignored d d' b w w' coded same e.0 in
    let same_buffer : r.buffer ≡ r'.buffer = ap (λ (x : Stepped). x.buffer) here in
    let coded_stays = same_embedded _ _ (half_setup _ _ (step_half d b w)) ∙ coded in
    let later = sync_pins_ignored_by_all r.device r'.device r.buffer ws ws' coded_stays (ap (λ (x : Stepped). x.device) here) e.1 in
    let there = later ∙ ap (λ buffer. map stepped_unleveled (stepped_by step r'.device buffer ws')) same_buffer in
    λ i. here i ∷ there i
