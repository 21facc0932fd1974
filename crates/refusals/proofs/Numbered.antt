-- The refusals have the numbers 1 to 21: none has 0, that of an accepted call. Assumes nothing.
use mathlib.Core.Bool.{false}
use mathlib.Core.Path.{◌≡◌}
use Prim.Native.Nat.{◌<◌, ◌≤◌}
use native.Mathlib.Omega.{arith}
use lib.Dec.{eqb}
use borrow.Author.Tests.{ne_eqb}
use Rattle.refusals.specs.Table.{number}
use Rattle.refusals.specs.declared.Refusal.{Refusal}
use Rattle.refusals.specs.declared.Refusal.TheVariants.{Malformed, NoRegister, AccessKind, ReservedBit, Unsupported, Enabled, SampleBits, SampleTotal, StartBeyond, Mark, Version, SampleCount, Length, WriteCount, Room, BufferMode, NoSample, Depth, PictureSize, PictureContent, SheetLimit}

pub numbered : (e : Refusal) → (0 < number e) × (number e ≤ 21)
numbered Malformed = (omega arith, omega arith)
numbered NoRegister = (omega arith, omega arith)
numbered AccessKind = (omega arith, omega arith)
numbered ReservedBit = (omega arith, omega arith)
numbered Unsupported = (omega arith, omega arith)
numbered Enabled = (omega arith, omega arith)
numbered SampleBits = (omega arith, omega arith)
numbered SampleTotal = (omega arith, omega arith)
numbered StartBeyond = (omega arith, omega arith)
numbered Mark = (omega arith, omega arith)
numbered Version = (omega arith, omega arith)
numbered SampleCount = (omega arith, omega arith)
numbered Length = (omega arith, omega arith)
numbered WriteCount = (omega arith, omega arith)
numbered Room = (omega arith, omega arith)
numbered BufferMode = (omega arith, omega arith)
numbered NoSample = (omega arith, omega arith)
numbered Depth = (omega arith, omega arith)
numbered PictureSize = (omega arith, omega arith)
numbered PictureContent = (omega arith, omega arith)
numbered SheetLimit = (omega arith, omega arith)

pub never_zero : (e : Refusal) → eqb (number e) 0 ≡ false
never_zero e = ne_eqb (number e) 0 (omega (arith, numbered e))
