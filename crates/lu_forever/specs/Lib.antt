pub mod Certified
pub mod Unrolled
