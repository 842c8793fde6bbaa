pub mod Short
pub mod Descending
pub mod Judged
