-- What records say and what a run's records must say, in OpenMP's words; these definitions are what a
-- verdict means. Read from top to bottom: single records; lists of records and the tasks, regions and teams
-- in them; what happens before what and orders; when a task is complete and where it must be; causes.
pub mod Names
pub mod Flags
pub mod ClaimPath
pub mod Records
pub mod Places
pub mod Limits
pub mod Traces
pub mod Turns
pub mod Tree
pub mod Threads
pub mod Regions
pub mod Waits
pub mod Teams
pub mod States
pub mod HappensBefore
pub mod Linearization
pub mod Completion
pub mod Coverage
pub mod Dependences
pub mod Violations
pub mod CauseNames
pub mod Causes
pub mod Upgrades
pub mod Ends
pub mod Shown
pub mod Faults
