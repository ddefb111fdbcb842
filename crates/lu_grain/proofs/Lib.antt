pub mod Threads
pub mod Carried
pub mod Ahead
pub mod Alone
pub mod Ended
pub mod Bounded
pub mod Setups
pub mod Serially
pub mod Verdicts
pub mod Copied
mod NeverEnded
