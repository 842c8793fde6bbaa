pub mod Classifying
pub mod Classified
