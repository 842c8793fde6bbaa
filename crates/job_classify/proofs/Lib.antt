pub mod ClassifyLaws
pub mod Settled
