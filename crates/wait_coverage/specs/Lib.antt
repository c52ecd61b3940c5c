-- The least ledger lengths at which tasks are finished and their credit is held, and which credit the end of
-- a region waits for. `Done`, `Known`, `Spans`, `Waits` and `Coverage` define what callers get, the others
-- the steps. Which tasks an end waits for is defined in `ompt_events`, what a ledger holds in
-- `credit_ledger`, and what of it is a task's credit in `trace_ledger`.
pub mod Spans
pub mod Lengths
pub mod Codes
pub mod Done
pub mod Limits
pub mod Meetings
pub mod Waits
pub mod Shown
pub mod Search
pub mod Known
pub mod Numbers
pub mod Coverage
