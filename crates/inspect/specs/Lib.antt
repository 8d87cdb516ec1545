pub mod Answers
pub mod Phrases
pub mod Watching
