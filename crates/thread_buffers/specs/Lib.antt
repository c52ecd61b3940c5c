-- The definitions of buffers, under the name of a crate of their own.
pub mod Buffers
