pub mod Texts
pub mod Numbers
pub mod Outcomes
pub mod PartLines
pub mod OneText
pub mod FormLines
pub mod LineTests
pub mod Reading
