pub mod Opinions
pub mod EatLaws
pub mod Numbered
pub mod AllLaws
