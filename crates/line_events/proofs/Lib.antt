pub mod BitLaws
mod EndLaws
pub mod ListedLaws
pub mod SaidLaws
mod AloneLaws
