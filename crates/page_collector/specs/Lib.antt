pub mod Pages
pub mod Memory
pub mod Collect
pub mod Table
