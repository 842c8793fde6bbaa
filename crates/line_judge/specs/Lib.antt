pub mod Opinions
pub mod Blocks
