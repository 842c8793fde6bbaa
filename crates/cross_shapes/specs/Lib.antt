pub mod Shapes
pub mod Spans
