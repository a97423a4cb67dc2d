pub mod Packet
pub mod Table
pub mod Sizes
