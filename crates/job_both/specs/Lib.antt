pub mod Sharing
pub mod Shared
pub mod Alone
pub mod Refusals
