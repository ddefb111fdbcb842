pub mod Kids
pub mod Partial
pub mod Longest
pub mod Leasts
pub mod Blocking
pub mod Reasons
pub mod Counting
pub mod Explained
mod Joined
mod Pieces
pub mod Breaking
pub mod OneOrder
mod Numbered
mod MoveNumbers
