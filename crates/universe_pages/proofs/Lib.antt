pub mod Rising
pub mod Pages
pub mod Writing
pub mod Table
pub mod Examples
