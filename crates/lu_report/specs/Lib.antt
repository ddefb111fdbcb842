pub mod Codes
pub mod Limits
pub mod Parts
pub mod Text
pub mod Forms
pub mod EveryLine
pub mod Laws
