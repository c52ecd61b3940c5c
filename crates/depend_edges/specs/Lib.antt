-- What a caller gets of the predecessors of tasks. Which tasks are predecessors is defined in
-- `ompt_events`. Read `Edges`; the others serve the source files of their names.
pub mod Edges
pub mod Items
pub mod Latest
pub mod Lists
pub mod Maxima
pub mod Placement
pub mod Predecessors
