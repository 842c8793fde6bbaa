pub mod Events
pub mod Noted
