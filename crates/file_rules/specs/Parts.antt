-- Running a trace file by parts (request W7): a state takes the file's bytes, cut in any way, and the end answers as for the whole file. A refusal of the file is no
-- answer before the end: the state remembers the first refused write or sample and goes on counting.
use Rattle.std.specs.Prelude.{Bool, cond, not, ◌&&◌, List, [], ◌∷◌, ◌++◌, ℕ, zero, suc, ◌+◌, ◌-◌, ◌/◌, ◌%◌, min, eqb, ltb, leb, length, set, replicate}
use Rattle.numbers.specs.Numbers.{number_at}
use Rattle.refusals.specs.Refusals.{◌⇒◌, first}
use Rattle.rules.specs.declared.Device.{Device}
use Rattle.rules.specs.Answers.{Changed}
use Rattle.rules.specs.RegisterCalls.{no_device, write}
use Rattle.rules.specs.Run.{RunResult, run}
use Rattle.samples.specs.Samples.{bad_sample}
use Rattle.trace_format.specs.Format.{header_length, write_size, sample_size}
use Rattle.trace_format.specs.Reading.{version_of, sample_count, sample_start, sample_at, whole, header_refusal, form_of, writes_of}
use Rattle.file_rules.specs.File.{set_up}

-- The header as far as it has come, how many bytes have come, the bytes of the write or sample that has begun, the device, and the number of the first refused write
-- or sample, 0 where none was.
pub record State : Type 0 where
  pub head : List ℕ
  pub taken : ℕ
  pub item : List ℕ
  pub device : Device
  pub number : ℕ

-- With the memory that is lent.
pub record Taken : Type 0 where
  pub state : State
  pub memory : List ℕ

-- Before the first byte.
abbrev pub no_item : List ℕ
no_item = replicate 5 0

unfoldable pub opened : Device → State
opened d = record { head = replicate 10 0; taken = 0; item = no_item; device = d; number = 0 }

-- Whether a byte more can change the answer: the header is not there yet, or it passes and no byte too many has come. Else no byte more is taken, not even counted.
unfoldable pub wants : List ℕ → ℕ → Bool
wants head taken =
    let header = header_refusal head taken in
    cond (eqb header 0) (leb taken (whole head)) (eqb header 13)

-- One byte more, with header and item.
abbrev pub next : State → List ℕ → List ℕ → State
next s head item = record { head = head; taken = s.taken + 1; item = item; device = s.device; number = s.number }

-- A write with all its bytes: refused, it leaves the device, and its number is remembered.
unfoldable pub after_write : State → State
after_write s =
    let r = write s.device (number_at s.item 0 1) (number_at s.item 1 4) in
    record { head = s.head; taken = s.taken; item = no_item; device = r.device; number = r.number }

-- A sample with all its bytes, as a run of one: refused (1, 9, 7, 8), it leaves device and memory, and its number is remembered. On the device of a file's run 1 and 8 do not
-- occur (W8: `never_remembered`).
unfoldable pub after_sample : ℕ → State → List ℕ → Taken
after_sample start s memory =
    let r = run s.device memory start (number_at s.item 0 sample_size ∷ []) in
    record { state = record { head = s.head; taken = s.taken; item = no_item; device = r.device; number = r.number }; memory = r.memory }

-- Where the next byte falls (01, "Trace file"; W7): in the header; in a write or a sample, at a place of its five or three bytes; where a byte is counted only, behind a
-- refused write or sample and behind the last sample; or where none is wanted any more.
pub data Falls : Type 0 where
  in_header : Falls
  in_write : (place : ℕ) → Falls
  in_sample : (place : ℕ) → Falls
  counted_only : Falls
  not_wanted : Falls

-- The place in a write, and in a sample: the remainder of the bytes since the first of them, by its size.
abbrev pub write_place : State → ℕ
write_place s = (s.taken - header_length (version_of s.head)) % write_size

abbrev pub sample_place : State → ℕ
sample_place s = (s.taken - sample_start s.head 0) % sample_size

-- The first line whose test holds: no byte more is wanted; the header is not complete; a write or sample was refused; the writes are not complete; the samples are not.
unfoldable pub falls : State → Falls
falls s =
    cond (not (wants s.head s.taken)) not_wanted
    (cond (ltb s.taken (header_length (version_of s.head))) in_header
    (cond (not (eqb s.number 0)) counted_only
    (cond (ltb s.taken (sample_start s.head 0)) (in_write (write_place s))
    (cond (ltb s.taken (whole s.head)) (in_sample (sample_place s))
    counted_only))))

-- A byte of the header; one put at its place of a write or sample, the last of which makes the write, or runs the sample; and one that is counted only.
abbrev pub header_byte : State → ℕ → State
header_byte s b = next s (set s.head s.taken b) s.item

abbrev pub put_byte : State → ℕ → ℕ → State
put_byte s place b = next s s.head (set s.item place b)

unfoldable pub write_byte : State → ℕ → ℕ → State
write_byte s place b = cond (eqb (place + 1) write_size) (after_write (put_byte s place b)) (put_byte s place b)

unfoldable pub sample_byte : ℕ → Taken → ℕ → ℕ → Taken
sample_byte start t place b =
    let s = put_byte t.state place b in
    cond (eqb (place + 1) sample_size) (after_sample start s t.memory) (record { state = s; memory = t.memory })

abbrev pub counted_byte : State → State
counted_byte s = next s s.head s.item

-- The next byte, by where it falls: one that is not wanted leaves all as it is.
unfoldable pub byte_at : Falls → ℕ → Taken → ℕ → Taken
byte_at in_header start t b = record { state = header_byte t.state b; memory = t.memory }
byte_at (in_write place) start t b = record { state = write_byte t.state place b; memory = t.memory }
byte_at (in_sample place) start t b = sample_byte start t place b
byte_at counted_only start t b = record { state = counted_byte t.state; memory = t.memory }
byte_at not_wanted start t b = t

unfoldable pub take_byte : ℕ → Taken → ℕ → Taken
take_byte start t b = byte_at (falls t.state) start t b

-- The bytes of a part in order, and one part after the other.
unfoldable pub take_bytes : ℕ → Taken → List ℕ → Taken
take_bytes start t [] = t
take_bytes start t (b ∷ bs) = take_bytes start (take_byte start t b) bs

unfoldable pub take_parts : ℕ → Taken → List (List ℕ) → Taken
take_parts start t [] = t
take_parts start t (p ∷ ps) = take_parts start (take_bytes start t p) ps

-- The bytes of all parts.
abbrev pub joined : List (List ℕ) → List ℕ
joined [] = []
joined (p ∷ ps) = p ++ joined ps

-- The end of the file, in the order of the whole file's run: the form checks 13, 10, 11, 13, 12, 13, the number that is remembered; then, for a file without samples, 9.
-- Refused, there is no device.
unfoldable pub end_refusal : State → List ℕ → ℕ → ℕ
end_refusal s memory start =
    let form = form_of s.head s.taken in
    first
    (not (eqb form 0) ⇒ form ∷
    not (eqb s.number 0) ⇒ s.number ∷
    ltb (length memory) start ⇒ 9 ∷
    [])

unfoldable pub ended : State → List ℕ → ℕ → Changed
ended s memory start =
    let number = end_refusal s memory start in
    record { number = number; device = cond (eqb number 0) s.device no_device }

-- A file by parts: its number, the device and the memory that the parts leave.
unfoldable pub run_parts : Device → List (List ℕ) → List ℕ → ℕ → RunResult
run_parts d parts memory start =
    let t = take_parts start (record { state = opened d; memory = memory }) parts in
    let e = ended t.state t.memory start in
    record { number = e.number; device = e.device; memory = t.memory }

-- How many bytes more are wanted before a refusal can be certain: up to the eighth, to the end of the header, to one behind the length that the header gives; then none.
unfoldable pub wanted : List ℕ → ℕ → ℕ
wanted head taken =
    let header = header_length (version_of head) in
    cond (wants head taken) (cond (ltb taken 8) (8 - taken) (cond (ltb taken header) (header - taken) (whole head + 1 - taken))) 0

-- The samples of a file from number k on, n of them, or fewer: up to the first that has a bit above 17.
unfoldable pub good_from : List ℕ → ℕ → ℕ → List ℕ
good_from file k zero = []
good_from file k (suc n) = cond (bad_sample (sample_at file k)) [] (sample_at file k ∷ good_from file (suc k) n)

-- The samples of a file that are there with all their bytes, up to the first bad one; and the memory that is left, whatever the file is refused for: with a header that
-- passes and no write refused, what the run of these samples leaves.
unfoldable pub samples_there : List ℕ → List ℕ
samples_there file = good_from file 0 (min (sample_count file) ((length file - sample_start file 0) / sample_size))

unfoldable pub left_by : Device → List ℕ → List ℕ → ℕ → List ℕ
left_by d file memory start =
    let ready = set_up d (writes_of file) in
    cond (eqb (header_refusal file (length file)) 0 && eqb ready.number 0) (run ready.device memory start (samples_there file)).memory memory
