-- What a packed trace keeps of each record: Named has the tasks that a record names, Packed the rest. Columns
-- says when columns are those of records, and Sparse when lists of few items are.
pub mod Ids
pub mod Named
pub mod Packed
pub mod Rows
pub mod Sparse
pub mod Columns
