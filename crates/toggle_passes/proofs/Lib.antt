pub mod Reworking
pub mod Upwards
pub mod Settles
