pub mod Edits
pub mod Changes
pub mod Spots
