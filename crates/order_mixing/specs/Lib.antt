pub mod Order
pub mod Turns
