pub mod Lent
pub mod Crossing
pub mod Making
