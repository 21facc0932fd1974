-- "A refusal returns its number and no value": what a refused making or file gives in place of a device (`no_device`) is malformed, and every call refuses it 1. Assumes nothing.
use mathlib.Core.Bool.{true}
use mathlib.Core.List.{List}
use mathlib.Core.Path.{◌≡◌, refl}
use Prim.Native.Nat.{ℕ}
use Rattle.output.specs.WellFormed.{bad_depth}
use Rattle.refusals.specs.Refusals.{refused}
use Rattle.rules.specs.RegisterCalls.{no_device, made, read_refusal, read, write_refusal, write, interrupt, rearm}
use Rattle.rules.specs.Run.{run_refusal, run, sample}
use Rattle.rules.specs.WellFormed.{malformed}
use Rattle.rules.proofs.EveryRule.{every_rule}

pub no_device_malformed : malformed no_device ≡ true
unfolding every_rule
no_device_malformed = refl

-- Refusal 18 gives it.
pub refused_making : (depth : ℕ) → bad_depth depth ≡ true → made depth ≡ record { number = 18; device = no_device }
unfolding made
refused_making depth bad = rw bad

pub writes_refused : (offset v : ℕ) → (write no_device offset v).number ≡ 1
unfolding write write_refusal
writes_refused offset v = rw no_device_malformed

pub reads_refused : (offset : ℕ) → read no_device offset ≡ refused 1
unfolding read read_refusal
reads_refused offset = rw no_device_malformed

pub line_refused : interrupt no_device ≡ refused 1
unfolding interrupt
line_refused = rw no_device_malformed

pub rearming_refused : (rearm no_device).number ≡ 1
unfolding rearm
rearming_refused = rw no_device_malformed

pub runs_refused : (memory : List ℕ) (start : ℕ) (samples : List ℕ) → (run no_device memory start samples).number ≡ 1
unfolding run run_refusal
runs_refused memory start samples = rw no_device_malformed

pub samples_refused : (memory : List ℕ) (start w : ℕ) → (sample no_device memory start w).answer ≡ refused 1
unfolding sample run_refusal
samples_refused memory start w = rw no_device_malformed
