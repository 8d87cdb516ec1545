pub mod Accepted
pub mod Modelled
pub mod Walking
