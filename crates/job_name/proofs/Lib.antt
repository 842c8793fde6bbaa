pub mod Walking
pub mod Counting
pub mod Bytes
pub mod Placing
pub mod Parts
pub mod Settled
