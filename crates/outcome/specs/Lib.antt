pub mod Outcome
pub mod Lent
pub mod Numbered
pub mod Settled
pub mod Refusing
