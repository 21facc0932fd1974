-- Every list of calls on a device made with a depth (W9), in any order: register writes, re-arming, placings (W2), runs and single samples, each with whatever memory and
-- start byte it is lent. A refused call changes nothing, so the list stands for its accepted calls. And the events of such a list, in order.
use Rattle.std.specs.Prelude.{Bool, true, cond, not, ◌&&◌, List, [], ◌∷◌, ◌++◌, ℕ, ◌<◌, ◌^◌, eqb, ltb, drop, Option}
use Rattle.registers.specs.Control.{embedded, enable}
use Rattle.rules.specs.declared.Capture.{Capture}
use Rattle.rules.specs.declared.Device.{Device}
use Rattle.rules.specs.State.{fresh_of}
use Rattle.rules.specs.RegisterCalls.{write, placed, rearm}
use Rattle.rules.specs.Sample.{capture_sample}
use Rattle.output.specs.declared.Packing.{Packing as Packed}
use Rattle.rules.specs.Run.{step, run_refusal, run, sample}

-- A call. The value of a write is a 32-bit number. A placing sets the place of the next word, to one not above landed: what two buffers do between samples (W2); re-arming sets 0.
pub data Call : Type 0 where
  a_write : (offset value : ℕ) → value < 2 ^ 32 → Call
  a_rearming : Call
  a_placing : ℕ → Call
  a_run : (memory : List ℕ) (start : ℕ) (samples : List ℕ) → Call
  a_sample : (memory : List ℕ) (start w : ℕ) → Call

-- The device that a call leaves.
unfoldable pub after : Device → Call → Device
after d (a_write offset value fits) = (write d offset value).device
after d a_rearming = (rearm d).device
after d (a_placing k) = cond (ltb d.core.output.counts.landed k) d (placed k d)
after d (a_run memory start samples) = (run d memory start samples).device
after d (a_sample memory start w) = (sample d memory start w).device

unfoldable pub after_all : Device → List Call → Device
after_all d [] = d
after_all d (c ∷ cs) = after_all (after d c) cs

abbrev pub reached : ℕ → List Call → Device
reached depth cs = after_all (fresh_of depth) cs

-- An event: an accepted sample, with the capture state that it found and its two answers; or ENABLE going from 1 to 0.
pub data Event : Type 0 where
  sampled : (found : Capture) (w : ℕ) (landing : Option ℕ) (packed : Packed) → Event
  disabled : Event

-- Some samples, an event for each.
unfoldable pub samplings : Device → List ℕ → List ℕ → List Event
samplings d buffer [] = []
samplings d buffer (w ∷ ws) =
    let r = step d buffer w in
    sampled d.core.capture w r.landing r.packed ∷ samplings r.device r.buffer ws

-- The samples of a call, a run's too. A refused call has no event.
unfoldable pub accepted_samplings : Device → List ℕ → ℕ → List ℕ → List Event
accepted_samplings d memory start samples = cond (eqb (run_refusal d memory start samples) 0) (samplings d (drop start memory) samples) []

unfoldable pub samplings_of : Device → Call → List Event
samplings_of d (a_write offset value fits) = []
samplings_of d a_rearming = []
samplings_of d (a_placing k) = []
samplings_of d (a_run memory start samples) = accepted_samplings d memory start samples
samplings_of d (a_sample memory start w) = accepted_samplings d memory start (w ∷ [])

-- ENABLE was 1 before a call, in d, and is 0 after it, in d'.
unfoldable pub disabling_of : Device → Device → List Event
disabling_of d d' = cond (enable d.core.capture.registers.cr && not (enable d'.core.capture.registers.cr)) (disabled ∷ []) []

-- The events of a call, and of a list of calls.
unfoldable pub events : Device → Call → List Event
events d c = samplings_of d c ++ disabling_of d (after d c)

unfoldable pub events_of_all : Device → List Call → List Event
events_of_all d [] = []
events_of_all d (c ∷ cs) = events d c ++ events_of_all (after d c) cs

abbrev pub history : ℕ → List Call → List Event
history depth cs = events_of_all (fresh_of depth) cs

-- ERR rises at no sample of the history, as the capture rules say (W6); and no sample found ESS 1.
unfoldable pub no_errors : List Event → Bool
no_errors [] = true
no_errors (sampled found w landing packed ∷ es) = not (capture_sample found w).error && no_errors es
no_errors (disabled ∷ es) = no_errors es

unfoldable pub without_codes : List Event → Bool
without_codes [] = true
without_codes (sampled found w landing packed ∷ es) = not (embedded found.registers.cr) && without_codes es
without_codes (disabled ∷ es) = without_codes es
