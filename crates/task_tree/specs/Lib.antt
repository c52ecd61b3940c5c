-- When a family or a tree is that of the records, and what the steps of building one know. What a tree of
-- tasks is, is defined in `ompt_events` (Tree). Read Family, Own and Paths first, then the steps in their
-- order. The last ones are of turns: records in another order in which each task's own keep theirs, for the
-- laws; when file order is the own order already; the chains of the threads' records; the turn of each
-- record; the gaps (the rows of the turns that begin, a record without a gap, and the search by maps);
-- the own order, and the families by it. What a turn and the tasks' own order are, is defined in
-- `ompt_events` (Turns).
pub mod Family
pub mod Runs
pub mod Own
pub mod Paths
pub mod LinkSlots
pub mod StandingSlots
pub mod Makers
pub mod Subjects
pub mod Links
pub mod Rows
pub mod Roots
pub mod Forward
pub mod Lineage
pub mod Tables
pub mod Rootless
pub mod Renaming
pub mod Rising
pub mod Chains
pub mod TurnTable
pub mod TurnRows
pub mod Gaps
pub mod GapSearch
pub mod OwnOrder
pub mod Families
