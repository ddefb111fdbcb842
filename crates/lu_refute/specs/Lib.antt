pub mod Linearizable
pub mod Answers
pub mod Codes
pub mod Laws
pub mod Walks
