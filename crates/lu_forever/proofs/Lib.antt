pub mod Deciding
pub mod Excluded
pub mod UnrolledRows
