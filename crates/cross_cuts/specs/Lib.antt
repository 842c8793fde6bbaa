pub mod Cuts
pub mod Every
pub mod Fit
pub mod Keys
