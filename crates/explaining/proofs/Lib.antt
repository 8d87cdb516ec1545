pub mod Forms
pub mod Kept
pub mod Law
pub mod Nodes
pub mod Showing
