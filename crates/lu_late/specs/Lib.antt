pub mod Steps
pub mod LastCalls
pub mod Rests
