pub mod Carried
pub mod Read
pub mod Relent
pub mod Shared
pub mod Local
pub mod Kept
