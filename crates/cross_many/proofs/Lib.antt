pub mod JudgeLaws
pub mod ManyLaws
pub mod Cases
pub mod Settled
