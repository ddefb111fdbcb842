pub mod Answers
pub mod Concluding
pub mod Ends
pub mod Frontiers
pub mod Tallies
mod Watching
