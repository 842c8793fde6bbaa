pub mod Report
pub mod Version
