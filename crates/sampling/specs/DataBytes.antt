-- Samples whose byte begins no code (W6), and how many of some samples come before the next that begins one.
use Rattle.std.specs.Prelude.{false, cond, List, [], ◌∷◌, ◌≡◌, ℕ, suc, eqb}
use Rattle.rules.specs.Sample.{byte_of}

unfoldable pub NoneBegins : List ℕ → Type 0
NoneBegins [] = Unit {0}
NoneBegins (w ∷ ws) = (eqb (byte_of w) 0xFF ≡ false) × NoneBegins ws

unfoldable pub data_run : List ℕ → ℕ
data_run [] = 0
data_run (w ∷ ws) = cond (eqb (byte_of w) 0xFF) 0 (suc (data_run ws))
