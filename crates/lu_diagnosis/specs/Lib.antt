pub mod SerialRuns
pub mod NextSteps
pub mod Laws
pub mod Sentences
