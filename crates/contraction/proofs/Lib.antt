mod Examples
pub mod Counts
pub mod Rounds
pub mod Worked
pub mod Order
pub mod Once
pub mod Size
pub mod Over
pub mod Leaves
pub mod Paths
pub mod Tall
pub mod EntryLaws
