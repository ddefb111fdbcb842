pub mod Histories
pub mod Order
pub mod Parts
pub mod Serial
pub mod Standing
pub mod Tables
pub mod Text
