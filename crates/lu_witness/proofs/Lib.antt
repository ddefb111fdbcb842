pub mod Entries
pub mod Beginnings
pub mod Finding
pub mod Nexts
pub mod Keeping
pub mod Verdicts
pub mod Endings
mod SameEvents
pub mod Right
mod Shown
