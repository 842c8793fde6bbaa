mod Examples
pub mod Spots
pub mod Single
pub mod Standing
pub mod Edits
pub mod Codes
pub mod Again
