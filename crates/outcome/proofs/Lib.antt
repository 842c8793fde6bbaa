pub mod Questions
pub mod LentLaws
pub mod NumberedLaws
pub mod Settling
pub mod Refusals
pub mod Judging
