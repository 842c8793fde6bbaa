pub mod Listing
pub mod Giving
pub mod Each
pub mod Settled
