pub mod Stores
pub mod Flips
pub mod Lays
pub mod Opens
pub mod Blocks
