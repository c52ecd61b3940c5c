-- Which calls a script may have at which place, and what a script keeps to test it. Scripts has the rules as
-- tests of a call. Rules has them by the steps that make and end a task; a law says that this is the same.
-- Keeping has what private functions use.
pub mod Scripts
pub mod Rules
pub mod Keeping
-- What runs of scripts record, and where they end. RunCalls defines what one call does, Progress what the steps
-- of a script leave one after another, Runs which trace is one of a run and which fault ends it, Called
-- what records and steps have in common, Tiling who has which share of credit, HandOvers when each task goes
-- from step to step with the ledger's length, Parts private steps.
pub mod Called
pub mod RunCalls
pub mod HandOvers
pub mod Progress
pub mod Runs
pub mod Tiling
pub mod Parts
