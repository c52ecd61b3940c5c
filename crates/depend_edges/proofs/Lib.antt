pub mod PlacementLemmas
pub mod ListedLemmas
pub mod ItemLemmas
pub mod PredecessorLemmas
pub mod MaximaLemmas
pub mod LatestLemmas
