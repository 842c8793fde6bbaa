pub mod Formula
pub mod Codes
pub mod States
pub mod Flips
