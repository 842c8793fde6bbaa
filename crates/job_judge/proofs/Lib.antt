pub mod JudgeLaws
pub mod Settled
