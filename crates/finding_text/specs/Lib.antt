pub mod Numbers
pub mod Findings
