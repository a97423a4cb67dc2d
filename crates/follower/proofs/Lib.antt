pub mod Scanned
pub mod Firsts
pub mod Sources
pub mod Steps
pub mod Counts
pub mod Exactly
pub mod Alone
pub mod Examples
