pub mod Words
pub mod Lowest
