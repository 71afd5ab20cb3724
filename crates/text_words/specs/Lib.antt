pub mod Fetching
pub mod Lines
pub mod Names
