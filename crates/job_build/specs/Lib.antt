pub mod Building
pub mod Built
