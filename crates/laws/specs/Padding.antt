-- Padding (W4): a partial word filled with zero bytes by rule 8: so many zero data are packed, and the word that is then full.
use Rattle.std.specs.Prelude.{Option, None, ℕ, zero, suc}
use Rattle.rules.specs.declared.Capture.{Capture}
use Rattle.rules.specs.Capture.{pack, either_word}

unfoldable pub zeros_packed : ℕ → Capture → Option ℕ
zeros_packed zero s = None
zeros_packed (suc n) s = either_word (pack s 0).word (zeros_packed n (pack s 0).state)
