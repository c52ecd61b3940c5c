-- The definitions of shares and of their machine, under the name of a crate of their own.
pub mod Shares
pub mod Credits
