pub mod Frontiers
pub mod Pieces
