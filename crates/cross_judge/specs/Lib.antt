pub mod Covering
pub mod Growing
