pub mod Reworking
pub mod Upwards
