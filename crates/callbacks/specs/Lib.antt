-- What a recorder does: the records of a thread (Buffers), the value of a task, the state of a thread, what it has
-- recorded, and the calls. Read Buffers, Tasks, Begun and Standing first, then Logs, Recorders and Schedules; Calls
-- defines when a call fails.
pub mod Buffers
pub mod Tasks
pub mod Begun
pub mod Standing
pub mod Logs
pub mod Calls
pub mod Recorders
pub mod Schedules
-- What recorders leave when they are closed, and the trace that is gathered from them.
pub mod Closed
pub mod Gathered
pub mod Noted
