-- W6: the stream that a device with ESS 1 and ENABLE 1 reads: the bytes at the working edges of some samples, and the codes and data that the rules act on at them. That the latter are the cut of the
-- former (crate `codes`, Bytes) is a law (`stream_is_cut`).
use Rattle.std.specs.Prelude.{cond, ◌&&◌, List, [], ◌∷◌, ◌++◌, ℕ}
use Rattle.codes.specs.Bytes.{Piece, pieces_of}
use Rattle.rules.specs.declared.Capture.{Capture}
use Rattle.rules.specs.declared.Device.{Device}
use Rattle.rules.specs.State.{capture_of}
use Rattle.rules.specs.Capture.{working_edge, enabled, remember_pins}
use Rattle.rules.specs.Sample.{byte_of}
use Rattle.rules.specs.Run.{step}

-- The bytes at the working edges, by PCKPOL and the clock's levels alone: each sample leaves its own remembered (rule 2).
unfoldable pub edge_bytes : Capture → List ℕ → List ℕ
edge_bytes s [] = []
edge_bytes s (w ∷ ws) = cond (working_edge s w) (byte_of w ∷ []) [] ++ edge_bytes (remember_pins w s) ws

-- What the rules act on at a sample (`at_byte`): where it goes on by rule 2, the code that its byte ends, or the data that it releases.
unfoldable pub acted_at : Capture → ℕ → List Piece
acted_at s w = cond (working_edge s w && enabled s) (pieces_of s.waiting (byte_of w)) []

-- And at some samples, each on the device that the one before left.
unfoldable pub acted_on : Device → List ℕ → List ℕ → List Piece
acted_on d buffer [] = []
acted_on d buffer (w ∷ ws) = acted_at (capture_of d) w ++ acted_on (step d buffer w).device (step d buffer w).buffer ws
