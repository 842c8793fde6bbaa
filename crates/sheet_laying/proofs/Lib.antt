pub mod CodeBytes
pub mod Stores
pub mod Laying
pub mod Putting
