pub mod Told
pub mod Lists
pub mod Rule
pub mod Texts
pub mod Walks
pub mod Steps
pub mod Answers
pub mod Examples
