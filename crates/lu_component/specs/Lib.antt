pub mod Component
pub mod Operands
