-- What a check returns. Read Readings first: what a trace shows and requires; then Verdicts: what a yes, a
-- no and a malformed say; then Starts: which tasks must be complete where a task starts. The others define
-- what the phases of the check know while they run.
pub mod Readings
pub mod Verdicts
pub mod Search
pub mod Makers
pub mod Lengths
pub mod Entries
pub mod Orders
pub mod Schedule
pub mod Suspensions
pub mod Lists
pub mod Queue
pub mod Merge
pub mod InOrder
pub mod Starts
pub mod Counter
pub mod Deciding
pub mod Findings
pub mod Gate
