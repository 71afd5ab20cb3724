pub mod Alters
pub mod Holds
pub mod Invariant
pub mod Mirror
pub mod Model
pub mod Reflects
pub mod Removed
pub mod Steps
