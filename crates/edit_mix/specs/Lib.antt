pub mod Edits
pub mod Acting
