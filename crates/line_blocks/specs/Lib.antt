pub mod Blocks
pub mod Walls
