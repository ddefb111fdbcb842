pub mod Ways
pub mod Tables
pub mod Reading
pub mod Stored
pub mod Asking
