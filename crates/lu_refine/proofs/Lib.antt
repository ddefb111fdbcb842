pub mod Chained
pub mod Filling
pub mod Alike
pub mod Passing
