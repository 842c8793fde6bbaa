pub mod StepsLaws
pub mod Trees
