pub mod Events
pub mod Keeping
pub mod PartEntries
pub mod Filtered
pub mod Agreement
pub mod Following
pub mod Derived
