pub mod Added
pub mod Demand
