pub mod Fits
pub mod Asked
