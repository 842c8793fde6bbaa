pub mod ProbeParts
pub mod DrawnParts
pub mod JobParts
pub mod CutAgain
mod Examples
