-- After enabling, ERR and an overrun only a frame start counts, or with FSC 0xFF a frame end (W6): then `seeks` holds (`enabled_seeks`, `error_seeks`, `lost_at_once`). Enabling raises no flag
-- (`enabling_raises_no_flag`), and while none of the samples ends the search every register stays, RIS too, no sample answers a word, completed or lost, and the search goes on (`no_flag_until_found`).
-- The idea: without an open frame a byte brings no pixel, and a code is only sought. Assumes nothing.
use mathlib.Core.Bool.{Bool, true, false, cond, not, ◌&&◌, true≢false}
use mathlib.Core.List.{List, [], ◌∷◌}
use Rattle.std.specs.Prelude.{Option, None, Some}
use mathlib.Core.Path.{◌≡◌, refl, sym, ap, subst, ◌∙◌}
use Prim.Native.Nat.{ℕ}
use native.Mathlib.Omega.{arith}
use borrow.Author.Tests.{not-true}
use Rattle.bits.proofs.Booleans.{and_true, either}
use Rattle.registers.specs.Control.{capture, snapshot, embedded, enable}
use Rattle.samples.specs.Samples.{bus_grant}
use Rattle.output.specs.declared.Fate.{Fate}
use Rattle.output.specs.declared.Fate.TheVariants.{Held, Lost}
use Rattle.output.specs.Output.{OutputState, with_held, holding, with_counts, count_sample, count_discarded, grant, offer, discard, counted}
use Rattle.output.specs.declared.Packing.TheVariants.{Nothing as nothing, Lost as lost}
use Rattle.output.proofs.Untouched.{Untouched, grant_untouched}
use Rattle.codes.specs.declared.Waiting.TheVariants.{Zero}
use Rattle.codes.specs.declared.Meaning.{Meaning}
use Rattle.codes.specs.declared.Meaning.TheVariants.{FrameEnd, FrameStart, LineEnd, LineStart, Unmatched}
use Rattle.codes.specs.Bytes.{waiting_count, is_code, waiting_after, released}
use Rattle.codes.specs.Meaning.{meaning, by_line_starts}
use Rattle.rules.specs.declared.Syncs.{Syncs}
use Rattle.rules.specs.declared.Frame.{Frame}
use Rattle.rules.specs.declared.Frame.TheVariants.{Closed, Open}
use Rattle.rules.specs.declared.Capture.{Capture}
use Rattle.rules.specs.declared.Device.{Device}
use Rattle.rules.specs.State.{output_of, is_open, not_blanking, no_partial, raise, clear_capture, close_frame, with_cr, with_ris, with_registers, with_pins, with_syncs, with_frame, with_rate, with_partial, with_waiting}
use Rattle.rules.specs.Capture.{Captured, no_word, flagged, working_edge, enabled, remember_pins}
use Rattle.rules.specs.Codes.{seeks, arrived, byte_in, taken_out, frame_opens, sought, at_code, at_byte, frame_ended}
use Rattle.rules.specs.Sample.{byte_of, edge, capture_sample}
use Rattle.rules.specs.Run.{lose_frame, after_word, complete, after_grant, step, steps}
use Rattle.rules.specs.RegisterCalls.{enabling, disabling, switch_enable, capture_rises, switch_capture, write_control}
use Rattle.laws.specs.Seeking.{counts, found_by, found_at, none_found, NoWords, SearchGoesOn, Emptied, RunsIn, Runs}
use Rattle.laws.proofs.Errors.{no_word_in_error, fallen_in_error}
use Rattle.laws.proofs.FrameCodes.{each_same}
use Rattle.laws.proofs.Pace.{at_code_word}
use Rattle.laws.proofs.WriteControl.{closed_frame}

-- A write of CR leaves RIS.
pub enabling_raises_no_flag : (v : ℕ) (s : Capture) → (write_control v s).registers.ris ≡ s.registers.ris
unfolding write_control with_registers with_cr switch_capture switch_enable enabling disabling close_frame with_syncs with_frame with_rate with_partial with_waiting
enabling_raises_no_flag v s =
    let P : Capture → Type 0 = λ t. t.registers.ris ≡ s.registers.ris in
    let same = either P (enable s.registers.cr) (either P (enable v) refl refl) (either P (enable v) refl refl) in
    either P (capture_rises v s) same same

pub enabled_seeks : (v : ℕ) (s : Capture) → enable s.registers.cr ≡ false → enable v ≡ true → seeks (write_control v s) ≡ true
unfolding write_control with_registers with_cr switch_capture switch_enable enabling with_syncs with_frame with_rate with_waiting seeks
enabled_seeks v s off on = rw (off, on) (either (λ (t : Capture). seeks t ≡ true) (capture_rises v s) refl refl)

-- A state that seeks has no frame open, and VSYNC does not blank.
abbrev searching : Capture → Capture
searching s = with_syncs (record { hsync = s.syncs.hsync; vsync = false }) (with_frame Closed s)

searches : (s : Capture) → seeks s ≡ true → searching s ≡ s
unfolding seeks with_syncs with_frame
searches s e =
    let (closed, quiet) = and_true (not (is_open s.frame)) (not s.syncs.vsync) e in
    let no_frame = closed_frame s.frame (not-true _ closed) in
    let no_blank = not-true s.syncs.vsync quiet in
    λ i.
    record {
      registers = s.registers;
      pins = s.pins;
      syncs = record { hsync = s.syncs.hsync; vsync = sym no_blank i };
      frame = sym no_frame i;
      rate = s.rate;
      partial = s.partial;
      waiting = s.waiting;
    }

-- What a byte or a sample makes of it.
record Searched (s : Capture) (found : Bool) (c : Captured) : Type 0 where
  registers : c.state.registers ≡ s.registers
  word : c.word ≡ None
  due : c.due ≡ false
  error : c.error ≡ false
  on : found ≡ false → seeks c.state ≡ true

sought_searched : (m : Meaning) (s : Capture) → Searched (searching s) (counts m s.registers.escr) (no_word (sought m (searching s)))
unfolding sought counts frame_opens no_word seeks with_syncs with_frame with_rate
sought_searched FrameEnd s = go (by_line_starts s.registers.escr)
  where
    go : (b : Bool) → Searched (searching s) b (no_word (cond b (with_syncs frame_ended (searching s)) (searching s)))
    go true = record { registers = refl; word = refl; due = refl; error = refl; on = λ e. absurd (true≢false e) }
    go false = record { registers = refl; word = refl; due = refl; error = refl; on = λ e. refl }
sought_searched FrameStart s =
    either (λ (t : Capture). Searched (searching s) true (no_word (with_syncs not_blanking t))) (capture s.registers.cr)
    (record { registers = refl; word = refl; due = refl; error = refl; on = λ e. absurd (true≢false e) })
    (record { registers = refl; word = refl; due = refl; error = refl; on = λ e. absurd (true≢false e) })
sought_searched LineEnd s = record { registers = refl; word = refl; due = refl; error = refl; on = λ e. refl }
sought_searched LineStart s = record { registers = refl; word = refl; due = refl; error = refl; on = λ e. refl }
sought_searched Unmatched s = record { registers = refl; word = refl; due = refl; error = refl; on = λ e. refl }

byte_searched : (s : Capture) (x : ℕ) → Searched (searching s) (found_by (searching s) x) (at_byte (searching s) x)
unfolding at_byte at_code seeks taken_out byte_in no_word found_by with_syncs with_frame with_waiting
byte_searched s x = go (is_code s.waiting)
  where
    m : Meaning
    m = meaning s.registers.escr s.registers.esur x

    t : Capture
    t = with_waiting Zero s

    go : (last : Bool) → Searched (searching s) (last && counts m s.registers.escr) (cond last (no_word (sought m (searching t))) (no_word (with_waiting (waiting_after s.waiting x) (searching s))))
    go true =
        let h = sought_searched m t in
        record { registers = h.registers; word = h.word; due = h.due; error = h.error; on = h.on }
    go false = record { registers = refl; word = refl; due = refl; error = refl; on = λ e. refl }

sample_searched : (s : Capture) (w : ℕ) → embedded s.registers.cr ≡ true → seeks s ≡ true → Searched s (found_at s w) (capture_sample s w)
unfolding capture_sample edge remember_pins no_word found_at found_by with_pins seeks
sample_searched s w coded seeking = rw coded (go (working_edge s w && enabled s))
  where
    u : Capture
    u = remember_pins w s

    byte : Searched u (found_by u (byte_of w)) (at_byte u (byte_of w))
    byte = subst (λ t. Searched t (found_by t (byte_of w)) (at_byte t (byte_of w))) (searches u seeking) (byte_searched u (byte_of w))

    go : (goes_on : Bool) → Searched s (goes_on && found_by s (byte_of w)) (cond goes_on (at_byte u (byte_of w)) (no_word u))
    go true = record { registers = byte.registers; word = byte.word; due = byte.due; error = byte.error; on = byte.on }
    go false = record { registers = refl; word = refl; due = refl; error = refl; on = λ e. seeking }

-- The whole sample, without a word.
quiet_complete : (o : Option ℕ) (c : Captured) (x : OutputState) → o ≡ None → c.due ≡ false
    → let r = complete o c x in (r.device.core.capture ≡ c.state) × (r.packed ≡ nothing) × (output_of r.device ≡ cond c.error (discard 0 x) x)
unfolding complete flagged
quiet_complete None c x e quiet = (rw quiet, refl, refl)
quiet_complete (Some v) c x e quiet = let z : ◌≡◌ {A = ℕ} 0 1 = cc in absurd (omega arith)

module _ (d : Device) (b : List ℕ) (w : ℕ) (coded : embedded d.core.capture.registers.cr ≡ true) (seeking : seeks d.core.capture ≡ true) where
  step_searched : Searched d.core.capture (found_at d.core.capture w) (no_word (step d b w).device.core.capture) × ((step d b w).packed ≡ nothing)
      × Untouched (counted (output_of d)) (output_of (step d b w).device)
  unfolding step after_grant no_word
  step_searched =
      let s = d.core.capture in
      let h = sample_searched s w coded seeking in
      let g = grant (bus_grant w) (enabled s) (counted (output_of d)) b in
      let (same, none_packed, left) = quiet_complete (capture_sample s w).word (capture_sample s w) g.state h.word h.due in (
        record { registers = rw same h.registers; word = refl; due = refl; error = refl; on = λ e. rw same (h.on e) },
        none_packed,
        rw (left, h.error) (grant_untouched (bus_grant w) (enabled s) (counted (output_of d)) b),
      )

  -- One sample.
  pub seeking_raises_no_flag : ((step d b w).device.core.capture.registers ≡ d.core.capture.registers) × ((step d b w).packed ≡ nothing)
  unfolding no_word
  seeking_raises_no_flag = (step_searched.0.registers, step_searched.1)

  pub seeks_on : found_at d.core.capture w ≡ false → seeks (step d b w).device.core.capture ≡ true
  unfolding no_word
  seeks_on e = step_searched.0.on e

  seeking_counts : ((step d b w).device.core.output.counts.completed ≡ d.core.output.counts.completed)
      × ((step d b w).device.core.output.counts.discarded ≡ d.core.output.counts.discarded)
  unfolding counted count_sample with_counts
  seeking_counts = let left = step_searched.2 in (left.completed, left.discarded)

-- Every list of samples that does not end the search.
pub no_flag_until_found : (d : Device) (b ws : List ℕ) → embedded d.core.capture.registers.cr ≡ true → seeks d.core.capture ≡ true → none_found d b ws ≡ true
    → SearchGoesOn d b ws
unfolding steps none_found NoWords
no_flag_until_found d b [] coded seeking unfound = record { seeks = seeking; registers = refl; no_words = tt; completed = refl; discarded = refl }
no_flag_until_found d b (w ∷ ws) coded seeking unfound =
    let (here, later) = and_true (not (found_at d.core.capture w)) _ unfound in
    let (same, silent) = seeking_raises_no_flag d b w coded seeking in
    let (completed, discarded) = seeking_counts d b w coded seeking in
    let rest = no_flag_until_found (step d b w).device (step d b w).buffer ws (rw same coded) (seeks_on d b w coded seeking (not-true _ here)) later in
    record {
      seeks = rest.seeks;
      registers = rest.registers ∙ same;
      no_words = (silent, rest.no_words);
      completed = rest.completed ∙ completed;
      discarded = rest.discarded ∙ discarded;
    }

-- ERR.
pub error_seeks : (d : Device) (b : List ℕ) (w : ℕ) → (capture_sample d.core.capture w).error ≡ true → Emptied (step d b w).device
unfolding step after_grant complete discard holding with_held count_discarded with_counts
error_seeks d b w rises =
    let s = d.core.capture in
    let c = capture_sample s w in
    let x = (grant (bus_grant w) (enabled s) (counted (output_of d)) b).state in
    let f = fallen_in_error s w rises in
    let (same, none_packed, left) = quiet_complete c.word c x (no_word_in_error s w rises) f.due in
    let emptied : (complete c.word c x).device.core.output.held ≡ 0 = ap (λ (y : OutputState). y.output.held) left ∙ rw rises in
    record { frame = rw same f.frame; partial = rw same f.partial; held = emptied; seeks = rw same f.seeking }

-- An overrun by data that a byte releases.
word_runs : (f : Frame) (s : Capture) (x v : ℕ) → RunsIn f s.syncs.vsync → (byte_in f s x).word ≡ Some v → (byte_in f s x).state.syncs.vsync ≡ false
unfolding byte_in no_word with_waiting with_frame
word_runs Closed s x v runs = λ is. let z : ◌≡◌ {A = ℕ} 0 1 = cc in absurd (omega arith)
word_runs (Open taken f) s x v runs =
    let still = waiting_after s.waiting x in
    either (λ (c : Captured). c.word ≡ Some v → c.state.syncs.vsync ≡ false) s.syncs.hsync
    (λ is. let z : ◌≡◌ {A = ℕ} 0 1 = cc in absurd (omega arith))
    (λ is. ap (λ (y : Syncs). y.vsync) (each_same _ taken (arrived f) (released s.waiting x) (waiting_count still)).syncs ∙ runs)

byte_runs : (s : Capture) (x v : ℕ) → Runs s → (at_byte s x).word ≡ Some v → (at_byte s x).state.syncs.vsync ≡ false
unfolding at_byte
byte_runs s x v runs =
    either (λ (c : Captured). c.word ≡ Some v → c.state.syncs.vsync ≡ false) (is_code s.waiting)
    (λ is. let e = at_code_word (meaning s.registers.escr s.registers.esur x) (with_waiting Zero (taken_out s.frame s)) in let z : ◌≡◌ {A = ℕ} 0 1 = cc in absurd (omega arith))
    (word_runs s.frame s x v runs)

sample_runs : (s : Capture) (w v : ℕ) → embedded s.registers.cr ≡ true → Runs s → (capture_sample s w).word ≡ Some v → (capture_sample s w).state.syncs.vsync ≡ false
unfolding capture_sample edge remember_pins no_word with_pins
sample_runs s w v coded runs =
    rw coded
    (either (λ (c : Captured). c.word ≡ Some v → c.state.syncs.vsync ≡ false) (working_edge s w && enabled s)
    (byte_runs (remember_pins w s) (byte_of w) v runs)
    (λ is. let z : ◌≡◌ {A = ℕ} 0 1 = cc in absurd (omega arith)))

lost_frame : (s : Capture) → s.syncs.vsync ≡ false → ((lose_frame s).frame ≡ Closed) × ((lose_frame s).partial ≡ no_partial) × (seeks (lose_frame s) ≡ true)
unfolding lose_frame close_frame with_partial with_frame clear_capture raise with_registers with_cr with_ris seeks
lost_frame s runs = (refl, refl, either (λ (t : Capture). not t.syncs.vsync ≡ true) (snapshot s.registers.cr) (rw runs) (rw runs))

complete_lost : (o : Option ℕ) (c : Captured) (x : OutputState) → ((v : ℕ) → o ≡ Some v → c.state.syncs.vsync ≡ false) → (complete o c x).packed ≡ lost → Emptied (complete o c x).device
unfolding complete after_word discard holding with_held
complete_lost None c x runs = λ is. let z : ◌≡◌ {A = ℕ} 0 1 = cc in absurd (omega arith)
complete_lost (Some v) c x runs = go (offer v x).fate (offer v x).state
  where
    go : (f : Fate) (y : OutputState) → (after_word f v c y).packed ≡ lost → Emptied (after_word f v c y).device
    go Held y is = let z : ◌≡◌ {A = ℕ} 0 1 = cc in absurd (omega arith)
    go Lost y is = let (frame, partial, seeking) = lost_frame c.state (runs v refl) in record { frame = frame; partial = partial; held = refl; seeks = seeking }

pub lost_at_once : (d : Device) (b : List ℕ) (w : ℕ) → embedded d.core.capture.registers.cr ≡ true → Runs d.core.capture → (step d b w).packed ≡ lost → Emptied (step d b w).device
unfolding step after_grant
lost_at_once d b w coded runs = complete_lost _ _ _ (λ v. sample_runs d.core.capture w v coded runs)
