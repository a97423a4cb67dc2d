pub mod Lines
pub mod Following
