pub mod ClaimPathLemmas
pub mod TraceLemmas
pub mod PlaceLemmas
pub mod RecordLemmas
pub mod EveryLemmas
pub mod TurnLemmas
pub mod TreeLemmas
pub mod ThreadLemmas
pub mod RegionLemmas
pub mod HappensBeforeLemmas
pub mod LinearizationLemmas
pub mod FaultLemmas
pub mod FileOrderLemmas
pub mod ShownLemmas
pub mod ListLemmas
pub mod NumberMaps
mod CircleLemmas
mod StateLemmas
