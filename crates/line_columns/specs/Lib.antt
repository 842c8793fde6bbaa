pub mod Planned
pub mod Planning
