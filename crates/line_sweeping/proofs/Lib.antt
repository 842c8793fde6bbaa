mod BitLaws
mod EndLaws
mod EventLaws
mod AloneLaws
