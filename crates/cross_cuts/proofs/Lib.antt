pub mod GatherLaws
pub mod EveryLaws
