pub mod Added
pub mod Demand
pub mod Heard
pub mod Messages
