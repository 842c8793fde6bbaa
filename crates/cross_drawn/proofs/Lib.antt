pub mod ProbeLaws
pub mod DrawnLaws
pub mod FewLaws
pub mod LineLaws
