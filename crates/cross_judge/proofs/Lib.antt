pub mod GrowLaws
pub mod FaultLaws
