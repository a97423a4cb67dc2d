pub mod Kept
pub mod Moves
pub mod Whole
pub mod Return
pub mod Again
pub mod Examples
