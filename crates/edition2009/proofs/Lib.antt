pub mod Laws
pub mod Editions
