pub mod Strips
pub mod Filling
