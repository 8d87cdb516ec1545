pub mod Asked
pub mod Law
pub mod Made
pub mod Modelled
pub mod Recorded
pub mod Saved
