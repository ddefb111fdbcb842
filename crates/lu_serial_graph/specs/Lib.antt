pub mod Graphs
pub mod Playing
pub mod Answers
pub mod Continuing
pub mod Ordering
pub mod Exploring
pub mod Learning
pub mod Subsets
