-- The laws of devices over lists of calls hold of boards, over one memory or two (W2): the counts and held are those of the history, the depth stays, at every moment `window_ended` is what the
-- history says and FRAME is due once in a frame, ERR rises where the rules say so, and in an open frame VSYNC does not blank.
-- The idea: for the device a board's calls are calls of its own (`by_device`). Assumes nothing.
use mathlib.Core.Bool.{Bool, true, false, ◌&&◌}
use mathlib.Core.List.{List, [], ◌∷◌, ◌++◌}
use Rattle.std.specs.Prelude.{Option}
use mathlib.Core.Path.{◌≡◌}
use Prim.Native.Nat.{ℕ, ◌≤◌}
use Rattle.bits.specs.Bits.{bit}
use Rattle.registers.specs.Control.{embedded}
use Rattle.codes.specs.declared.Meaning.TheVariants.{FrameEnd}
use Rattle.codes.specs.Bytes.{is_code}
use Rattle.codes.specs.Meaning.{meaning}
use Rattle.output.specs.WellFormed.{bad_depth}
use Rattle.rules.specs.declared.Scan.{Scan}
use Rattle.rules.specs.declared.Frame.TheVariants.{Open}
use Rattle.rules.specs.declared.Capture.{Capture}
use Rattle.rules.specs.Capture.{working_edge, enabled, blanking, window_ended}
use Rattle.rules.specs.Sample.{byte_of}
use Rattle.output.specs.declared.Packing.{Packing as Packed}
use Rattle.laws.specs.Histories as device_histories
use Rattle.laws.specs.Histories.{Event, sampled, no_errors, without_codes}
use Rattle.output.specs.Ledger.{numbers}
use Rattle.laws.specs.Ledger.{ledger}
use Rattle.laws.specs.FrameHistory.{frame_history}
use Rattle.laws.specs.Seeking.{Runs}
use Rattle.laws.proofs.CountsFromHistory as counts
use Rattle.laws.proofs.Depth as depths
use Rattle.laws.proofs.FrameHistory as frames
use Rattle.laws.proofs.Flags as flags
use Rattle.laws.proofs.OpenFrames as open_frames
use Rattle.board_laws.specs.BoardHistories.{Call, reached, history, events}
use Rattle.board_laws.proofs.AsDevice.{by_device}

-- From a board made with a depth from 1 to 32.
module _ (depth : ℕ) (sound : bad_depth depth ≡ false) (cs : List Call) where
  pub counts_from_history : ledger (events (history depth cs)) ≡ numbers (reached depth cs).device.core.output
  counts_from_history = by_device (λ d es. ledger es ≡ numbers d.core.output) depth sound (counts.counts_from_history depth) cs

  pub depth_stays : (reached depth cs).device.core.output.depth ≡ depth
  depth_stays = by_device (λ d es. d.core.output.depth ≡ depth) depth sound (depths.depth_stays depth) cs

  -- FRAME, at every moment: es are the device's events so far, and fs those to come.
  pub frame_due_once : (es fs : List Event) → events (history depth cs) ≡ es ++ fs → (frame_history es).due ≤ 1
  frame_due_once es fs = by_device (λ d l. l ≡ es ++ fs → (frame_history es).due ≤ 1) depth sound (λ ds. frames.frame_due_once depth sound ds es fs) cs

  -- At a sample, which finds s.
  module _ (es fs : List Event) (s : Capture) (w : ℕ) (landing : Option ℕ) (packed : Packed) (now : events (history depth cs) ≡ es ++ (sampled s w landing packed ∷ fs)) where
    at_sample : (P : Type 0) → ((ds : List device_histories.Call) → device_histories.history depth ds ≡ es ++ (sampled s w landing packed ∷ fs) → P) → P
    at_sample P law = by_device (λ d l. l ≡ es ++ (sampled s w landing packed ∷ fs) → P) depth sound law cs now

    pub window_ended_is_history : (taken : Bool) (f : Scan) → s.frame ≡ Open taken f → window_ended s f ≡ (frame_history es).ended
    window_ended_is_history taken f = at_sample _ (λ ds at. frames.window_ended_is_history depth sound ds es fs s w landing packed at taken f)

    pub frame_due_at_the_end : (f : Scan) → embedded s.registers.cr ≡ false → s.frame ≡ Open true f → working_edge s w && enabled s ≡ true → (blanking s w).vsync ≡ true
        → (frame_history (es ++ (sampled s w landing packed ∷ []))).due ≡ 1
    frame_due_at_the_end f = at_sample _ (λ ds at. frames.frame_due_at_the_end depth sound ds es fs s w landing packed at f)

    pub frame_due_at_the_end_code : (f : Scan) → embedded s.registers.cr ≡ true → s.frame ≡ Open true f → working_edge s w && enabled s ≡ true
        → is_code s.waiting ≡ true → meaning s.registers.escr s.registers.esur (byte_of w) ≡ FrameEnd
        → (frame_history (es ++ (sampled s w landing packed ∷ []))).due ≡ 1
    frame_due_at_the_end_code f = at_sample _ (λ ds at. frames.frame_due_at_the_end_code depth sound ds es fs s w landing packed at f)

  -- ERR, and open frames.
  pub error_never_rises : no_errors (events (history depth cs)) ≡ true → bit 2 (reached depth cs).device.core.capture.registers.ris ≡ false
  error_never_rises = by_device (λ d es. no_errors es ≡ true → bit 2 d.core.capture.registers.ris ≡ false) depth sound (flags.error_never_rises depth) cs

  pub no_error_without_codes : without_codes (events (history depth cs)) ≡ true → bit 2 (reached depth cs).device.core.capture.registers.ris ≡ false
  no_error_without_codes = by_device (λ d es. without_codes es ≡ true → bit 2 d.core.capture.registers.ris ≡ false) depth sound (flags.no_error_without_codes depth) cs

  pub open_frame_runs : Runs (reached depth cs).device.core.capture
  open_frame_runs = by_device (λ d es. Runs d.core.capture) depth sound (open_frames.open_frame_runs depth) cs
