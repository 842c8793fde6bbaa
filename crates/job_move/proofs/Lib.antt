pub mod Exclusive
pub mod Putting
pub mod Giving
pub mod Used
pub mod MoveLaws
pub mod Settled
pub mod Journey
pub mod Return
