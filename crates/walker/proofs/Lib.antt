pub mod Replays
pub mod Traces
pub mod Walks
