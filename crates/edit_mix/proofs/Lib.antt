pub mod MixLaws
