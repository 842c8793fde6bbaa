pub mod RunLaws
pub mod Settled
