pub mod Length
pub mod Entry
