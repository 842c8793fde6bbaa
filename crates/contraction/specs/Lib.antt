pub mod Records
pub mod Rounds
pub mod Height
pub mod Terms
pub mod Entries
