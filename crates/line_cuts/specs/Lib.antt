pub mod Cuts
pub mod Theirs
pub mod Places
