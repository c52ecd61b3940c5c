-- What the searches test at each record. The states, the walk along a thread and the causes themselves are
-- defined in `ompt_events`.
pub mod Nesting
pub mod Misnesting
pub mod Walks
pub mod Homes
pub mod Regions
pub mod Progress
pub mod Rows
pub mod TurnEdges
pub mod States
