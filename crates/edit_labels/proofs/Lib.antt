pub mod EditedLaws
pub mod ArrayLaws
