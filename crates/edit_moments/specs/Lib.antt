pub mod Edits
pub mod Listed
pub mod Waiting
