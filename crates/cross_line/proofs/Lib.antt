pub mod LentLaws
pub mod ProbeLaws
pub mod LineLaws
pub mod Settled
pub mod Cases
