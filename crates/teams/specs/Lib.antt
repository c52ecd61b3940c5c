-- The members of each team, and the places at which tasks begin barriers. `Teams` says what a caller gets;
-- the others are the steps of a build. Who a teammate is, and which barrier is whose, is defined in
-- `ompt_events`.
pub mod Teams
pub mod Begins
pub mod Members
pub mod Fewest
pub mod Tables
pub mod Missed
pub mod Rosters
pub mod Short
pub mod Lacks
