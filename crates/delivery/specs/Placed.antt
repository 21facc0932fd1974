-- A memory with noted words stored in it (W2): those of its buffer, in order, each at its number, so that a word of a later frame takes the bytes of an earlier one with its number.
use Rattle.std.specs.Prelude.{cond, List, [], ◌∷◌, ◌++◌, ℕ, ◌+◌, ◌*◌, take, drop}
use Rattle.buffers.specs.declared.Buffer.{Buffer}
use Rattle.buffers.specs.Story.{same_buffer}
use Rattle.output.specs.Output.{bytes}
use Rattle.delivery.specs.Noted.{Noted}

-- Four bytes of a memory replaced by those of a word.
unfoldable pub with_word : ℕ → ℕ → List ℕ → List ℕ
with_word at v memory = take at memory ++ bytes v ++ drop (at + 4) memory

-- The byte at which a word stands, from a start byte on.
abbrev pub standing_at : ℕ → Noted → ℕ
standing_at start w = start + 4 * w.turn.number

unfoldable pub with_noted : Buffer → ℕ → List Noted → List ℕ → List ℕ
with_noted u start [] memory = memory
with_noted u start (w ∷ ws) memory =
    with_noted u start ws (cond (same_buffer u w.turn.buffer) (with_word (standing_at start w) w.word memory) memory)
