pub mod Ahead
pub mod Ended
pub mod Keeping
pub mod Layouts
pub mod Moves
pub mod Numbers
pub mod OneStepLaws
pub mod Orders
pub mod Paths
pub mod Positions
pub mod Progress
pub mod Running
pub mod Starting
pub mod StepLaws
pub mod Undoing
pub mod Unseen
mod RowLists
