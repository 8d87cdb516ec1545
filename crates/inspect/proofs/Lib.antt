pub mod Entries
pub mod Own
