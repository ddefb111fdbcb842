pub mod Followed
pub mod Joined
pub mod SetupRuns
pub mod Spelled
