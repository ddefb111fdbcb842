pub mod Choices
pub mod Laws
