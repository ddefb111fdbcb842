pub mod Serial
pub mod Offences
pub mod Walks
pub mod Whole
pub mod Cuts
