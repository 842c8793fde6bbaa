pub mod ItemLaws
pub mod OrderLaws
pub mod JudgeLaws
