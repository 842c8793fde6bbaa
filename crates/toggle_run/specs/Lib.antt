pub mod Ran
pub mod Tables
