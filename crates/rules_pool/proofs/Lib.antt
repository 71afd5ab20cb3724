pub mod WorkedRules
pub mod WorkedRun
