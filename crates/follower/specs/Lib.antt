pub mod Follow
pub mod Captures
pub mod Examples
