pub mod Characters
pub mod Rule
pub mod Pattern
pub mod Walk
