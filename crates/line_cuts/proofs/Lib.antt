pub mod Raised
pub mod Ordering
pub mod LineWalls
pub mod Together
pub mod Places
pub mod CutLaws
pub mod Refusals
pub mod WallLines
pub mod OpinionCuts
pub mod TheirCuts
pub mod PartLaws
pub mod JoinLaws
mod Examples
