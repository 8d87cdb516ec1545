pub mod Endings
pub mod Parsing
pub mod Rests
