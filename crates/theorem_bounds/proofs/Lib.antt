pub mod Begin
pub mod Course
pub mod Demand3
pub mod Since
pub mod Version
