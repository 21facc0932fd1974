-- What is noted of a sample, where nothing was noted before, are its answers. By the cases of each answer. Assumes nothing.
use Prim.Native.Nat.{ℕ}
use mathlib.Core.Path.{◌≡◌, refl}
use Rattle.std.specs.Prelude.{Option, None, Some}
use Rattle.output.specs.declared.Packing.{Packing as Packed}
use Rattle.output.specs.declared.Packing.TheVariants.{Nothing as nothing, Completed as completed, Lost as lost}
use Rattle.fifo.specs.Notes.{no_answer, note_landing, note_packing}

pub said_back : (l : Option ℕ) (p : Packed) → note_packing p (note_landing l no_answer) ≡ record { landing = l; packed = p }
said_back None nothing = refl
said_back None (completed v) = refl
said_back None lost = refl
said_back (Some byte) nothing = refl
said_back (Some byte) (completed v) = refl
said_back (Some byte) lost = refl
