pub mod Crossing
pub mod Answer
pub mod Passing
pub mod Cases
