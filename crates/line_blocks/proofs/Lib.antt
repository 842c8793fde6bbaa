mod EventWalls
mod HeldLaws
mod RowLaws
mod BlockLaws
mod PassBlocks
pub mod PassLaws
mod StepLaws
