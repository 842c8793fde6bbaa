pub mod Exits
pub mod ScanLaws
pub mod PlaceLaws
