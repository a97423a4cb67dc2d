pub mod Tell
pub mod Bytes
