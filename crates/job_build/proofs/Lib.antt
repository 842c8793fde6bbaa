pub mod BuildLaws
pub mod Settled
