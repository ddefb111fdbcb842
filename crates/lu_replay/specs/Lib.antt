pub mod Replays
pub mod Text
pub mod Reports
pub mod Confirmed
pub mod Laws
