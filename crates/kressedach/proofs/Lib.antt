pub mod ReportLaws
pub mod Settled
