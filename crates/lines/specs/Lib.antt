pub mod Lines
pub mod Right
pub mod Edges
pub mod Given
pub mod AtIndex
pub mod Columns
pub mod Views
