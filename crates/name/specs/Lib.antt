pub mod Utf8
pub mod CodePoint
pub mod Name
pub mod Words
