-- The trace file. Read first what a file stands for: `Files`, over `Formats` for line after line, and `TraceTexts`
-- for the text of a trace; then what a call of `read` and of `write` answers: `Reading`, `Counts`, `Answers`; of `read_on`: `ReadingOn` and `Ahead`,
-- over `Pieces` and `Blocks`; of `read_each`: `Taking`; of `upgrade`: `Upgrading`.
pub mod Limits
pub mod Counts
pub mod Windows
pub mod FaultNames
pub mod Formats
pub mod Files
pub mod TraceTexts
pub mod Keeping
pub mod ScriptFiles
pub mod Reading
pub mod Taking
pub mod Pieces
pub mod Blocks
pub mod ReadingOn
pub mod Ahead
pub mod MemoryDevices
pub mod Answers
pub mod Streams
pub mod Upgrading
pub mod TaskTurns
