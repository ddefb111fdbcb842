pub mod PieceOrder
mod Kids
mod Making
mod PieceLists
