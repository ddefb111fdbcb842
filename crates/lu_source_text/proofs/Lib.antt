mod Beginning
mod Examples
mod LookedUp
mod Nested
pub mod Kept
pub mod Lines
pub mod Drafts
pub mod Innermost
pub mod First
pub mod Sizes
pub mod Steps
pub mod Worded
pub mod Entries
pub mod Complete
