pub mod Block
pub mod Greatest
