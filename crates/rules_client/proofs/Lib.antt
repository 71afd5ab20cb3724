pub mod Unique
pub mod WorkedEvents
pub mod WorkedRemoval
pub mod WorkedRules
pub mod WorkedWrites
