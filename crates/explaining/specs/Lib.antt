pub mod Rules
pub mod Shown
pub mod Words
