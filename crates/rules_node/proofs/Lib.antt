pub mod Unique
pub mod Worked
pub mod WorkedRows
