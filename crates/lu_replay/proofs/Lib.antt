pub mod Playing
pub mod Sets
pub mod Determined
pub mod Limits
pub mod RunsAnew
pub mod Alike
