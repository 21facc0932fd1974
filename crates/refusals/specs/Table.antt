-- The refusal numbers (document 01, "Refusal numbers"), each given exactly when its row says.
use Rattle.std.specs.Prelude.{ℕ, Result, Ok, Err}
use Rattle.refusals.specs.declared.Refusal.{Refusal}
use Rattle.refusals.specs.declared.Refusal.TheVariants.{Malformed, NoRegister, AccessKind, ReservedBit, Unsupported, Enabled, SampleBits, SampleTotal, StartBeyond, Mark, Version, SampleCount, Length, WriteCount, Room, BufferMode, NoSample, Depth, PictureSize, PictureContent, SheetLimit}
use Rattle.refusals.specs.Refusals.{Answer, refused, answered}

abbrev pub number : Refusal → ℕ
-- the device is malformed
number Malformed = 1
-- no register at the offset
number NoRegister = 2
-- read of ICR, or write of SR, RIS, MIS
number AccessKind = 3
-- a reserved bit of the written value is 1
number ReservedBit = 4
-- CR value with JPEG 1 otherwise than with EDM 0 and CROP 0 (W4), ESS 1 with another EDM or with JPEG 1 (W6), FCRC 3, or CAPTURE 1 and ENABLE 0
number Unsupported = 5
-- ENABLE is 1 and CWSTRT, CWSIZE, ESCR or ESUR (W6) is written, a CR bit other than 0 and 14 would change, or the mode is set (W2)
number Enabled = 6
-- a sample has a bit above 17
number SampleBits = 7
-- samples in all would pass 4,294,967,295
number SampleTotal = 8
-- start byte above the memory length
number StartBeyond = 9
-- mark is not FGT
number Mark = 10
-- version is neither 1 nor 2 (W7)
number Version = 11
-- sample count of a version 1 file above 16,384, of a version 2 file not above it, or of the writer above 4,294,967,295 (W7)
number SampleCount = 12
-- fewer than 8 bytes, in version 2 10 (W7), or length not as the header says
number Length = 13
-- more than 255 writes given to the writer
number WriteCount = 14
-- the writer's output does not fit
number Room = 15
-- W2: memories not matching the mode
number BufferMode = 16
-- W3: a sample number 0 or beyond the file (no call gives it yet)
number NoSample = 17
-- W9: depth 0 or above 32 where a device is made
number Depth = 18
-- W11, W13: EDM above 3; W11: a side 0 or above 2048, or pixels that do not exactly fill the words given, or whole words on reading (no call gives it yet)
number PictureSize = 19
-- W11: header or length not ours; W11, W13: a pixel above its maximum (no call gives it yet)
number PictureContent = 20
-- W13: more than 65,536 frames in a sheet, or more than 4,194,304 pixels in a frame (no call gives it yet)
number SheetLimit = 21

-- 0 of an accepted call, else the refusal's number.
abbrev pub outcome : {A : Type 0} → Result A Refusal → ℕ
outcome (Ok a) = 0
outcome (Err e) = number e

-- The value of an accepted call, else the refusal's number.
abbrev pub answer_of : {A : Type 0} → Result A Refusal → Answer A
answer_of (Ok a) = answered a
answer_of (Err e) = refused (number e)
