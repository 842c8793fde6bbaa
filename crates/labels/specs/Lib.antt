pub mod Labels
pub mod Columns
pub mod Arrays
pub mod Linked
