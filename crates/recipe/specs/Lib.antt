pub mod Bytes
pub mod Format
pub mod Offence
pub mod Recipes
pub mod Sequences
pub mod Spans
pub mod Words
pub mod Writing
