pub mod Moving
pub mod Moved
pub mod Journey
pub mod Putting
