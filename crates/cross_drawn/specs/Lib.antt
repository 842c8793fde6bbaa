pub mod Lent
pub mod Drawn
pub mod Refusing
pub mod Asking
pub mod Judging
pub mod Gathered
