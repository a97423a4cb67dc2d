pub mod Fits
pub mod Held
pub mod Follow
pub mod Examples
