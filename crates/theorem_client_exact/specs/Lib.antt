pub mod Accepted
pub mod AtReached
pub mod Checks
pub mod Fields
pub mod StateRules
pub mod Words
