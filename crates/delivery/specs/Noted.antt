-- The words of the claim, from the inputs alone: the register rules and rules 2 to 8, over the accepted writes, mode changes (W2) and samples from reset,
-- without grants or FIFO, note each full word with its sample's number, its buffer and its number there.
use Rattle.std.specs.Prelude.{Bool, true, false, cond, not, ◌&&◌, ◌||◌, List, [], ◌∷◌, ◌++◌, map, ℕ, ◌+◌, eqb, Option, None, Some}
use Rattle.registers.specs.Control.{jpeg, embedded, edm}
use Rattle.registers.specs.Map.{register_at}
use Rattle.buffers.specs.declared.Buffer.{Buffer}
use Rattle.buffers.specs.declared.Buffer.TheVariants.{A, B}
use Rattle.buffers.specs.Turns.{other}
use Rattle.rules.specs.declared.Capture.{Capture}
use Rattle.rules.specs.Capture.{Captured, enabled}
use Rattle.refusals.specs.Refusals.{first}
use Rattle.rules.specs.Sample.{capture_sample, next_capture}
use Rattle.output.specs.declared.Packing.{Packing as Packed}
use Rattle.output.specs.declared.Packing.TheVariants.{Nothing as nothing, Completed as completed}
use Rattle.rules.specs.RegisterCalls.{register_tests, write_register}
use Rattle.board_rules.specs.TwoBuffers.{has_closed}
use Rattle.registers.specs.declared.Register.{Register}
use Rattle.delivery.specs.Calls.{SetUpCall, a_write, one_buffer, two_buffers}

-- A register write by the register rules alone: refused by 2 to 6, or its effect.
unfoldable pub write_found : Option Register → ℕ → Capture → Capture
write_found None v s = s
write_found (Some r) v s = write_register r v s

unfoldable pub noted_write : Capture → ℕ → ℕ → Capture
noted_write s offset v =
    cond (eqb (first (register_tests s.registers.cr (register_at offset) v)) 0)
    (write_found (register_at offset) v s)
    s

-- The capture state, and whether the mode is two (W2). A mode change is refused while ENABLE is 1.
pub record Configured : Type 0 where
  pub capture : Capture
  pub two : Bool

unfoldable pub with_mode : Bool → Configured → Configured
with_mode two c = record { capture = c.capture; two = cond (enabled c.capture) c.two two }

-- A set-up call, and some.
unfoldable pub noted_set_up : Configured → SetUpCall → Configured
noted_set_up c (a_write offset value fits) = record { capture = noted_write c.capture offset value; two = c.two }
noted_set_up c one_buffer = with_mode false c
noted_set_up c two_buffers = with_mode true c

unfoldable pub noted_set_ups : Configured → List SetUpCall → Configured
noted_set_ups c [] = c
noted_set_ups c (x ∷ xs) = noted_set_ups (noted_set_up c x) xs

-- W2: with two buffers the words "are numbered from 0 in each frame and go to the buffer that the switching names". Kept are the buffer of the frame that completed a word last, and how many the
-- open frame has completed. With one buffer all go to A, numbered from 0.
pub record Turn : Type 0 where
  pub buffer : Buffer
  pub number : ℕ

abbrev pub first_turn : Bool → Turn
first_turn two = record { buffer = cond two B A; number = 0 }

-- Buffer and number of the next word: "the first word a frame completes switches to the other".
unfoldable pub word_turn : Bool → Turn → Turn
word_turn two t = cond (two && eqb t.number 0) (record { buffer = other t.buffer; number = 0 }) t

unfoldable pub turn_after : Bool → Turn → Option ℕ → Turn
turn_after two t None = t
turn_after two t (Some v) = record { buffer = (word_turn two t).buffer; number = (word_turn two t).number + 1 }

-- After a sample: its word, and then the end of its frame.
unfoldable pub next_turn : Bool → Turn → Capture → Captured → Turn
next_turn two t s c =
    let u = turn_after two t c.word in
    cond (two && has_closed s c) (record { buffer = u.buffer; number = 0 }) u

-- A noted word, the number of its sample, its buffer and its number there.
pub record Noted : Type 0 where
  pub word : ℕ
  pub sample : ℕ
  pub turn : Turn

unfoldable pub note : ℕ → Turn → Option ℕ → List Noted
note n t None = []
note n t (Some v) = record { word = v; sample = n; turn = t } ∷ []

-- The words noted from a state at some samples, n samples being before them. No word is lost, so that FRAME rises where it is due.
unfoldable pub noted : ℕ → Bool → Turn → Capture → List ℕ → List Noted
noted n two t s [] = []
noted n two t s (w ∷ ws) =
    let c = capture_sample s w in
    note (n + 1) (word_turn two t) c.word ++ noted (n + 1) two (next_turn two t s c) (next_capture s w) ws

abbrev pub words : List Noted → List ℕ
words ns = map (λ x. x.word) ns

-- What a single sample with some number must say: the word noted at it, or none.
unfoldable pub noted_at : ℕ → List Noted → Packed
noted_at n [] = nothing
noted_at n (x ∷ xs) = cond (eqb x.sample n) (completed x.word) (noted_at n xs)

-- ERR rises at one of some samples (W6), by the capture rules.
unfoldable pub any_error : Capture → List ℕ → Bool
any_error s [] = false
any_error s (w ∷ ws) = (capture_sample s w).error || any_error (next_capture s w) ws

-- The smallest distance between noted words, s (W9): 8 samples at 8 bits without JPEG and ESS, else 4. With JPEG a padded word can come four samples after the one before (W4), and
-- with ESS released bytes can bring two words four samples apart (W6).
unfoldable pub spacing : ℕ → ℕ
spacing cr = cond (eqb (edm cr) 0 && not (jpeg cr) && not (embedded cr)) 8 4
