-- A memory with landed words.
use Rattle.std.specs.Prelude.{List, ◌++◌, ℕ, ◌+◌, ◌*◌, length, take, drop}
use Rattle.output.specs.Output.{all_bytes}

-- A memory with words 0, 1 and so on at their bytes from a start byte on, and every other byte as it was.
unfoldable pub with_words : ℕ → List ℕ → List ℕ → List ℕ
with_words start vs memory = take start memory ++ all_bytes vs ++ drop (start + 4 * length vs) memory
