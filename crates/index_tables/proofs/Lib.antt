pub mod DenseLemmas
pub mod NumberingLemmas
pub mod RowLemmas
