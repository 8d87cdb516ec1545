pub mod Judged
pub mod Parts
pub mod Printed
pub mod Statuses
