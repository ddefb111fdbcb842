pub mod Reported
pub mod Found
