pub mod Sheet
pub mod Otherwise
pub mod Walk
pub mod Guaranteed
