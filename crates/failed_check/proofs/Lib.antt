pub mod Laws
pub mod Layers
pub mod Order
pub mod Whole
pub mod Bytes
pub mod Apart
