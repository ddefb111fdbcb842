mod Declared
pub mod Placing
pub mod Statements
pub mod Drafts
pub mod Lines
pub mod WrittenWords
pub mod WrittenLines
pub mod WrittenInstrs
pub mod WrittenCode
pub mod RoundTrip
pub mod Behind
pub mod Understood
mod Labelled
