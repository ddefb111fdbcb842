pub mod Codes
pub mod Conclusions
pub mod Findings
pub mod Laws
pub mod Ranges
pub mod Works
pub mod Watches
