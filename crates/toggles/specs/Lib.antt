pub mod Toggles
pub mod Demand
pub mod Named
pub mod Flipping
