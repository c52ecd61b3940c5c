pub mod SparseLemmas
pub mod ColumnLemmas
pub mod TraceLemmas
