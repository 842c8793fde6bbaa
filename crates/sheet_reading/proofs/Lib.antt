pub mod Named
pub mod Reading
pub mod Fitting
pub mod Told
pub mod Settled
