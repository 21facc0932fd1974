-- What the exported calls on trace files answer and leave, as numbers and words (include/dcmi.h). Refused, image, memory and every output stay.
use Rattle.std.specs.Prelude.{cond, List, [], ◌∷◌, ℕ, eqb}
use Rattle.rules.specs.Run as run_rules
use Rattle.board_rules.specs.BoardCalls as board_calls
use Rattle.trace_format.specs.declared.Write.{Write}
use Rattle.trace_format.specs.Reading as reading
use Rattle.trace_writer.specs.Writing as writing
use Rattle.file_rules.specs.File as file_rules
use Rattle.image_rules.specs.BoardImage.{image_of}
use Rattle.call_rules.specs.DeviceCalls.{RunCalled, Got, got}

-- A file needs no device: its image is the one that the file leaves, in mode one, or, refused, as it was.
abbrev pub file_ran : List ℕ → run_rules.RunResult → RunCalled
file_ran image r = record { number = r.number; image = cond (eqb r.number 0) (image_of (board_calls.in_one r.device)) image; memory = r.memory }

unfoldable pub run_file : List ℕ → List ℕ → List ℕ → ℕ → RunCalled
run_file image file memory start = file_ran image (file_rules.run_file file memory start)

unfoldable pub run_file_depth : List ℕ → ℕ → List ℕ → List ℕ → ℕ → RunCalled
run_file_depth image depth file memory start = file_ran image (file_rules.run_file_of depth file memory start)

-- The trace file's writer: the number, the length, and the buffer that is left.
pub record Encoded : Type 0 where
  pub got : Got
  pub buffer : List ℕ

abbrev pub encoded : Got → List ℕ → Encoded
encoded got buffer = record { got = got; buffer = buffer }

unfoldable pub trace_write : List Write → List ℕ → List ℕ → ℕ → Encoded
trace_write writes samples out old =
    let r = writing.write writes samples out in
    encoded (got old r.answer) r.buffer

-- An item of a trace file as four words: kind, offset, value, next place.
pub record ItemCalled : Type 0 where
  pub number : ℕ
  pub item : List ℕ

abbrev pub item_called : ℕ → List ℕ → ItemCalled
item_called number item = record { number = number; item = item }

abbrev pub item_words : List ℕ → reading.Item → ℕ → ItemCalled
item_words old (reading.a_write w) next = record { number = 0; item = 1 ∷ w.offset ∷ w.value ∷ next ∷ [] }
item_words old (reading.a_sample w) next = record { number = 0; item = 2 ∷ 0 ∷ w ∷ next ∷ [] }
item_words old reading.the_end next = record { number = 0; item = 0 ∷ 0 ∷ 0 ∷ next ∷ [] }
item_words old (reading.refused n) next = record { number = n; item = old }

unfoldable pub trace_item : List ℕ → ℕ → List ℕ → ItemCalled
trace_item file place old =
    let r = reading.read file place in
    item_words old r.item r.place
