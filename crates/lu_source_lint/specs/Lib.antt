pub mod Faults
pub mod Warnings
