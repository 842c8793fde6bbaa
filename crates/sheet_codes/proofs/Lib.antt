pub mod CodeSteps
pub mod Filling
