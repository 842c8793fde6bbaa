pub mod EditLaws
pub mod Settled
