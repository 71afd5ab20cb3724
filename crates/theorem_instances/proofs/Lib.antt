pub mod Added
pub mod Bounds
pub mod Client
pub mod Honest
pub mod Node
pub mod Recovery
