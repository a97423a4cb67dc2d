pub mod Packet
pub mod Parts
pub mod Editions
