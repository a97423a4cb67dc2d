pub mod Memory
pub mod Answered
pub mod Read
