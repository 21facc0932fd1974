-- Running a trace file on a fresh device (document 01, "Refusal numbers"): its form, its register writes, one run of its samples.
use Rattle.std.specs.Prelude.{cond, not, List, [], ◌∷◌, ◌++◌, ℕ, eqb, length, take, drop}
use Rattle.refusals.specs.Refusals.{Test, ◌⇒◌, first}
use Rattle.rules.specs.declared.Device.{Device}
use Rattle.rules.specs.State.{fresh}
use Rattle.rules.specs.Answers.{Changed}
use Rattle.rules.specs.RegisterCalls.{no_device, write, made}
use Rattle.rules.specs.Run.{RunResult, steps}
use Rattle.trace_format.specs.declared.Write.{Write}
use Rattle.trace_format.specs.Reading.{writes_of, samples_of, run_checks}

-- Register writes in order: the device after all of them, or the first refused write's number.
unfoldable pub set_up : Device → List Write → Changed
set_up d [] = record { number = 0; device = d }
set_up d (w ∷ ws) = cond (eqb (write d w.offset w.value).number 0) (set_up (write d w.offset w.value).device ws) (write d w.offset w.value)

-- The checks of a file on a device d, with the number that its writes there give. Any other run has 1 and 8 as well, which no file can give (W8): `proofs/WholeOrder.antt`
-- shows that a file is run alike with them.
abbrev pub file_checks : Device → List ℕ → ℕ → ℕ → List Test
file_checks d file size start = run_checks file (set_up d (writes_of file)).number size start

-- On a device made with a depth (W9) 18 is the first check.
abbrev pub file_checks_of : ℕ → List ℕ → ℕ → ℕ → List Test
file_checks_of depth file size start =
    not (eqb (made depth).number 0) ⇒ (made depth).number ∷
    file_checks (made depth).device file size start

-- What a refused file leaves: no device, and the memory as it was.
abbrev pub refused : ℕ → List ℕ → RunResult
refused number memory = record { number = number; device = no_device; memory = memory }

-- A file on a device d, with its checks: the number of the first that holds; or device and memory after its writes and one run of its samples.
abbrev pub run_checked : List Test → Device → List ℕ → List ℕ → ℕ → RunResult
run_checked checks d file memory start =
    let number = first checks in
    let r = steps (set_up d (writes_of file)).device (drop start memory) (samples_of file) in
    cond (eqb number 0) (record { number = 0; device = r.device; memory = take start memory ++ r.buffer }) (refused number memory)

unfoldable pub run_on : Device → List ℕ → List ℕ → ℕ → RunResult
run_on d file memory start = run_checked (file_checks d file (length memory) start) d file memory start

-- On a fresh device; and on one made with a depth.
abbrev pub run_file : List ℕ → List ℕ → ℕ → RunResult
run_file file memory start = run_on fresh file memory start

unfoldable pub run_file_of : ℕ → List ℕ → List ℕ → ℕ → RunResult
run_file_of depth file memory start = run_checked (file_checks_of depth file (length memory) start) (made depth).device file memory start
