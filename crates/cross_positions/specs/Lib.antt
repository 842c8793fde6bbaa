pub mod Positions
pub mod Found
pub mod Fields
