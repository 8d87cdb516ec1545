pub mod Right
pub mod Told
pub mod Words
