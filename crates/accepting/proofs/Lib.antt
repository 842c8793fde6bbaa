pub mod Accepted
pub mod PreparedLaws
