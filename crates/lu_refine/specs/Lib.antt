pub mod Removals
pub mod Choices
pub mod Campaigns
pub mod Roles
pub mod ByThread
pub mod Laws
pub mod Codes
