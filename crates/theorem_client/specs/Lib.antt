pub mod ClientDemand1
pub mod Demand1
pub mod Demand2
pub mod Reached
pub mod Reading
pub mod Said
