pub mod History
pub mod Station
pub mod Together
pub mod Whole
