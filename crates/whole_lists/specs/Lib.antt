pub mod Feed
pub mod Captures
pub mod Examples
