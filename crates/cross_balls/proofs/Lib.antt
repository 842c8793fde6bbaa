pub mod BallLaws
pub mod LentLaws
pub mod RangeLaws
pub mod Settled
pub mod Cases
