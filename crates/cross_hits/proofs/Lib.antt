pub mod HitLaws
pub mod VisitLaws
pub mod BlockLaws
