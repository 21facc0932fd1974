-- `refusals::Refusal::number` meets its contract. Assumes nothing.
use Rattle.refusals.proofs.Refusal.number.Goals as goal

pub returns-in-Malformed : goal.returns-in-Malformed
returns-in-Malformed c = rw c.in-Malformed.is

pub returns-in-NoRegister : goal.returns-in-NoRegister
returns-in-NoRegister c = rw c.in-NoRegister.is

pub returns-in-AccessKind : goal.returns-in-AccessKind
returns-in-AccessKind c = rw c.in-AccessKind.is

pub returns-in-ReservedBit : goal.returns-in-ReservedBit
returns-in-ReservedBit c = rw c.in-ReservedBit.is

pub returns-in-Unsupported : goal.returns-in-Unsupported
returns-in-Unsupported c = rw c.in-Unsupported.is

pub returns-in-Enabled : goal.returns-in-Enabled
returns-in-Enabled c = rw c.in-Enabled.is

pub returns-in-SampleBits : goal.returns-in-SampleBits
returns-in-SampleBits c = rw c.in-SampleBits.is

pub returns-in-SampleTotal : goal.returns-in-SampleTotal
returns-in-SampleTotal c = rw c.in-SampleTotal.is

pub returns-in-StartBeyond : goal.returns-in-StartBeyond
returns-in-StartBeyond c = rw c.in-StartBeyond.is

pub returns-in-Mark : goal.returns-in-Mark
returns-in-Mark c = rw c.in-Mark.is

pub returns-in-Version : goal.returns-in-Version
returns-in-Version c = rw c.in-Version.is

pub returns-in-SampleCount : goal.returns-in-SampleCount
returns-in-SampleCount c = rw c.in-SampleCount.is

pub returns-in-Length : goal.returns-in-Length
returns-in-Length c = rw c.in-Length.is

pub returns-in-WriteCount : goal.returns-in-WriteCount
returns-in-WriteCount c = rw c.in-WriteCount.is

pub returns-in-Room : goal.returns-in-Room
returns-in-Room c = rw c.in-Room.is

pub returns-in-BufferMode : goal.returns-in-BufferMode
returns-in-BufferMode c = rw c.in-BufferMode.is

pub returns-in-NoSample : goal.returns-in-NoSample
returns-in-NoSample c = rw c.in-NoSample.is

pub returns-in-Depth : goal.returns-in-Depth
returns-in-Depth c = rw c.in-Depth.is

pub returns-in-PictureSize : goal.returns-in-PictureSize
returns-in-PictureSize c = rw c.in-PictureSize.is

pub returns-in-PictureContent : goal.returns-in-PictureContent
returns-in-PictureContent c = rw c.in-PictureContent.is

pub returns-in-SheetLimit : goal.returns-in-SheetLimit
returns-in-SheetLimit c = rw c.in-SheetLimit.is
