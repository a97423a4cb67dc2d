pub mod Universes
pub mod Layer
