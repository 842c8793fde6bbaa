pub mod WriteLaws
pub mod GiveLaws
pub mod FitLaws
pub mod Answered
pub mod Settled
