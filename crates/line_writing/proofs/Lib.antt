pub mod GroupLaws
mod TallyLaws
mod SpotLaws
pub mod FinishLaws
pub mod ListLaws
mod WriteLaws
