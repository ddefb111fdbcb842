pub mod Wordings
pub mod Deeds
pub mod Lines
pub mod Traces
pub mod Setups
pub mod Laws
