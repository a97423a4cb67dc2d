pub mod Totals
pub mod Table
pub mod Rules
pub mod Walk
