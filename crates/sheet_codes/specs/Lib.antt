pub mod Codes
pub mod Operands
