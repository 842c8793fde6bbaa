pub mod BothLaws
pub mod Settled
