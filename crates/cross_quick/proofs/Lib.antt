pub mod Closest
pub mod Added
pub mod Nearly
pub mod GivenLaws
