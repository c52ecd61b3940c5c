mod ListingLemmas
mod NumberingLemmas
mod TargetLemmas
mod WalkLemmas
mod CurrentLemmas
pub mod NestingLemmas
pub mod MisnestingLemmas
mod ProgressLemmas
pub mod OriginLemmas
mod PassLemmas
pub mod HomeLemmas
pub mod RootLemmas
mod MetLemmas
mod MovedLemmas
pub mod RowLemmas
mod TurnEdgeLemmas
pub mod ShownFaultLemmas
mod RegionLemmas
mod StateLemmas
