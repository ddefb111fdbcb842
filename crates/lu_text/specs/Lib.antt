pub mod Names
pub mod Numbers
pub mod Lines
pub mod Bundle
pub mod Words
pub mod Faults
pub mod Writing
pub mod Results
