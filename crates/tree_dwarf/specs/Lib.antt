pub mod Dwarfed
pub mod Building
