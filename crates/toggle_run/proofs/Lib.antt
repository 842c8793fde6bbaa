pub mod Filling
pub mod RanLaws
