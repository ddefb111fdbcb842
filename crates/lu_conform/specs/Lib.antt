pub mod Stages
pub mod Packing
pub mod Showing
pub mod Growing
pub mod Ways
pub mod Conforming
pub mod Laws
pub mod Stretching
