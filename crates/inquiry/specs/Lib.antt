pub mod Calls
pub mod Grounds
pub mod Histories
pub mod Inquiries
pub mod Promises
pub mod Reached
pub mod Shapes
pub mod Sides
