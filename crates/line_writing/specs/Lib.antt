pub mod Groups
pub mod Finishing
pub mod Spots
pub mod Lists
pub mod Writing
