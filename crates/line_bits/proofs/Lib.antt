pub mod Spans
mod Weaves
