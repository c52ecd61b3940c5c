-- When records stand in an order in which a program may have made them (Online), and what they leave: of
-- threads and tasks, as recorders would have them (Replays); of the items that children depend on (Items: the
-- uses of locations by siblings are in Uses, and how they are counted in Groups), and of the lists that name
-- them (Lists); for the ends of regions that wait for tasks (Waits, Teams, Kept, WaitSteps), and the task that
-- is missed at one (Missed); of ledger lengths (Lengths); and of the members of teams (Rosters). Sets of ids
-- (Ids) are kept as intervals (Spans). All of it together is what a watch keeps (Watches).
pub mod Online
pub mod ThreadStates
pub mod Tasks
pub mod Spans
pub mod Ids
pub mod Replays
pub mod Groups
pub mod Uses
pub mod Items
pub mod Lists
pub mod Waits
pub mod Missed
pub mod Kept
pub mod Teams
pub mod WaitSteps
pub mod Lengths
pub mod Rosters
pub mod Watches
