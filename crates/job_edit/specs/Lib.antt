pub mod Editing
pub mod Edited
