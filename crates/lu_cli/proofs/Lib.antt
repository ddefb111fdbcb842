pub mod Known
pub mod Requests
pub mod Sayings
pub mod Reported
pub mod Refuted
pub mod Against
pub mod Certified
mod Explained
pub mod Judged
mod RunAnswers
mod Strings
mod WordedTexts
mod Messages
mod Tables
mod FirstLines
