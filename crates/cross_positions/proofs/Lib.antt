pub mod Rounding
pub mod Cases
pub mod Numbers
