-- A line of a file. Read first what a line stands for: `RecordLines` and `StepLines`, over `Members`, and what the
-- line of a record is: `Texts`; then how it is read: `InFront`, `Objects`, and `LooseBodies`.
pub mod CauseNames
pub mod Limits
pub mod MemberNames
pub mod CallbackNames
pub mod Members
pub mod Meanings
pub mod RecordLines
pub mod LooseBodies
pub mod StepLines
pub mod Texts
pub mod PlainData
pub mod InFront
pub mod Objects
