-- What the tables by index are: read Numbering, then Dense, Rows, Slots and Seeded.
pub mod Seeded
pub mod Dense
pub mod Numbering
pub mod Rows
pub mod Slots
