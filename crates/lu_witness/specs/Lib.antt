pub mod Kept
pub mod Search
pub mod Witnesses
pub mod Goodness
pub mod Caches
