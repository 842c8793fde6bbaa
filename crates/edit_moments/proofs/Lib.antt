pub mod Lists
pub mod ActLaws
