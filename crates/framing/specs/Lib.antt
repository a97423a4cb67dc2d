pub mod Data
pub mod Bytes
