pub mod Running
pub mod Ran
