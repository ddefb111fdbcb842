pub mod Slices
pub mod Certified
pub mod Surveys
pub mod Comparing
pub mod Laws
