pub mod Accepting
pub mod Prepared
