pub mod Balls
pub mod Small
