-- W6, from bytes to codes and data (004, 32.3.6): FF 00 00 XY, from the left, is a code for every XY; bytes that begin like one and are none are
-- released as data, in order. The rule byte by byte, and the same as a cut of a whole list.
use Rattle.std.specs.Prelude.{Bool, true, false, cond, ◌&&◌, List, [], ◌∷◌, ◌++◌, map, ℕ, eqb}
use Rattle.codes.specs.declared.Waiting.{Waiting}
use Rattle.codes.specs.declared.Waiting.TheVariants.{Zero, One, Two, Three}

-- The bytes that wait: none, FF, FF 00, or FF 00 00.
abbrev pub waiting_bytes : Waiting → List ℕ
waiting_bytes Zero = []
waiting_bytes One = 0xFF ∷ []
waiting_bytes Two = 0xFF ∷ 0 ∷ []
waiting_bytes Three = 0xFF ∷ 0 ∷ 0 ∷ []

abbrev pub waiting_count : Waiting → ℕ
waiting_count Zero = 0
waiting_count One = 1
waiting_count Two = 2
waiting_count Three = 3

-- A byte that comes now is the XY of a code, whatever it is.
abbrev pub is_code : Waiting → Bool
is_code Zero = false
is_code One = false
is_code Two = false
is_code Three = true

-- What waits after a byte. FF begins to wait, but as the XY of a code it does not.
unfoldable pub waiting_after : Waiting → ℕ → Waiting
waiting_after Zero x = cond (eqb x 0xFF) One Zero
waiting_after One x = cond (eqb x 0) Two (cond (eqb x 0xFF) One Zero)
waiting_after Two x = cond (eqb x 0) Three (cond (eqb x 0xFF) One Zero)
waiting_after Three x = Zero

-- The data that a byte releases, in order.
unfoldable pub released : Waiting → ℕ → List ℕ
released Zero x = cond (eqb x 0xFF) [] (x ∷ [])
released One x = cond (eqb x 0) [] (cond (eqb x 0xFF) (0xFF ∷ []) (0xFF ∷ x ∷ []))
released Two x = cond (eqb x 0) [] (cond (eqb x 0xFF) (0xFF ∷ 0 ∷ []) (0xFF ∷ 0 ∷ x ∷ []))
released Three x = []

-- A piece of the stream: a datum, or a code with its XY.
pub data Piece : Type 0 where
  a_datum : ℕ → Piece
  a_code : ℕ → Piece

-- What a byte brings: the data that it releases, or the code that it ends.
unfoldable pub pieces_of : Waiting → ℕ → List Piece
pieces_of k x = cond (is_code k) (a_code x ∷ []) (map a_datum (released k x))

-- A list of bytes cut up: its codes and data, and the bytes at its end that still wait.
pub record Cut : Type 0 where
  pub pieces : List Piece
  pub waits : Waiting

-- Some pieces, and then those of a cut.
abbrev pub in_front : List Piece → Cut → Cut
in_front ps c = record { pieces = ps ++ c.pieces; waits = c.waits }

-- Byte by byte, where some wait.
unfoldable pub by_bytes : Waiting → List ℕ → Cut
by_bytes k [] = record { pieces = []; waits = k }
by_bytes k (x ∷ xs) = in_front (pieces_of k x) (by_bytes (waiting_after k x) xs)

-- The whole list, from the left: FF 00 00 XY is a code; FF, FF 00 or FF 00 00 at the end wait; otherwise the first byte is a datum.
unfoldable pub cut : List ℕ → Cut
cut [] = record { pieces = []; waits = Zero }
cut (a ∷ []) = cond (eqb a 0xFF) (record { pieces = []; waits = One }) (in_front (a_datum a ∷ []) (cut []))
cut (a ∷ b ∷ []) = cond (eqb a 0xFF && eqb b 0) (record { pieces = []; waits = Two }) (in_front (a_datum a ∷ []) (cut (b ∷ [])))
cut (a ∷ b ∷ c ∷ []) = cond (eqb a 0xFF && eqb b 0 && eqb c 0) (record { pieces = []; waits = Three }) (in_front (a_datum a ∷ []) (cut (b ∷ c ∷ [])))
cut (a ∷ b ∷ c ∷ xy ∷ bs) = cond (eqb a 0xFF && eqb b 0 && eqb c 0) (in_front (a_code xy ∷ []) (cut bs)) (in_front (a_datum a ∷ []) (cut (b ∷ c ∷ xy ∷ bs)))

-- The bytes that some pieces are made of.
abbrev pub piece_bytes : Piece → List ℕ
piece_bytes (a_datum x) = x ∷ []
piece_bytes (a_code xy) = 0xFF ∷ 0 ∷ 0 ∷ xy ∷ []

unfoldable pub bytes_of : List Piece → List ℕ
bytes_of [] = []
bytes_of (p ∷ ps) = piece_bytes p ++ bytes_of ps
