pub mod KeepLaws
pub mod CrossesLaws
pub mod LineLaws
