pub mod Names
pub mod NamedAll
pub mod Standing
