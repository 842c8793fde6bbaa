pub mod Digits
pub mod OneBit
pub mod LowestLaws
pub mod OthersLaws
pub mod Walk
