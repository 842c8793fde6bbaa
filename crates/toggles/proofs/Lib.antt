pub mod Afresh
pub mod Runs
pub mod Count
pub mod Flipping
