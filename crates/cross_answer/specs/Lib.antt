pub mod Answer
pub mod Giving
