mod Heads
mod Lefts
mod RowLaws
mod LastLaws
mod PutLaws
mod PlanLaws
mod WordLaws
mod RunLaws
pub mod CursorLaws
