-- What W2 leaves as it was: in mode one each call answers, and leaves device and memory, as the device's own call does, for every device, malformed too; and the mode stays one.
use Rattle.std.specs.Prelude.{Bool, true, false, List, [], ◌∷◌, ◌≡◌, ℕ}
use Rattle.rules.specs.declared.Device.{Device}
use Rattle.rules.specs.Answers as rule_answers
use Rattle.rules.specs.RegisterCalls as register_rules
use Rattle.rules.specs.Run as run_rules
use Rattle.board_rules.specs.Answers.{Changed}
use Rattle.board_rules.specs.BoardCalls as board_calls
use Rattle.board_rules.specs.BoardCalls.{in_one}
use Rattle.board_rules.specs.BoardRuns as board_runs
use Rattle.board_rules.specs.BoardRuns.{OneRun, OneSample}
use Rattle.laws.specs.Histories as device_histories
use Rattle.board_laws.specs.BoardHistories.{Call, a_write, a_rearming, a_run, a_sample}

-- What a device's call leaves, with the device in mode one.
abbrev pub changed_one : rule_answers.Changed → Changed
changed_one c = record { number = c.number; board = in_one c.device }

abbrev pub ran_one : run_rules.RunResult → OneRun
ran_one r = record { number = r.number; board = in_one r.device; memory = r.memory }

abbrev pub sampled_one : run_rules.SampleResult → OneSample
sampled_one r = record { answer = r.answer; board = in_one r.device; memory = r.memory }

-- The calls.
pub record AsBefore (d : Device) : Type 0 where
  pub write : (offset v : ℕ) → board_calls.write (in_one d) offset v ≡ changed_one (register_rules.write d offset v)
  pub read : (offset : ℕ) → board_calls.read (in_one d) offset ≡ register_rules.read d offset
  pub interrupt : board_calls.interrupt (in_one d) ≡ register_rules.interrupt d
  pub rearm : board_calls.rearm (in_one d) ≡ changed_one (register_rules.rearm d)
  pub run : (memory : List ℕ) (start : ℕ) (samples : List ℕ) → board_runs.run (in_one d) memory start samples ≡ ran_one (run_rules.run d memory start samples)
  pub sample : (memory : List ℕ) (start w : ℕ) → board_runs.sample (in_one d) memory start w ≡ sampled_one (run_rules.sample d memory start w)

-- A list of the device's calls, as a board's. A placing is no call of today's.
unfoldable pub on_board : List device_histories.Call → List Call
on_board [] = []
on_board (device_histories.a_write offset value fits ∷ cs) = a_write offset value fits ∷ on_board cs
on_board (device_histories.a_rearming ∷ cs) = a_rearming ∷ on_board cs
on_board (device_histories.a_placing k ∷ cs) = on_board cs
on_board (device_histories.a_run memory start samples ∷ cs) = a_run memory start samples ∷ on_board cs
on_board (device_histories.a_sample memory start w ∷ cs) = a_sample memory start w ∷ on_board cs

unfoldable pub without_placings : List device_histories.Call → Bool
without_placings [] = true
without_placings (device_histories.a_write offset value fits ∷ cs) = without_placings cs
without_placings (device_histories.a_rearming ∷ cs) = without_placings cs
without_placings (device_histories.a_placing k ∷ cs) = false
without_placings (device_histories.a_run memory start samples ∷ cs) = without_placings cs
without_placings (device_histories.a_sample memory start w ∷ cs) = without_placings cs
