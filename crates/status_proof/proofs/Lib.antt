pub mod Rows
pub mod Back
pub mod Written
pub mod Cases
pub mod Laws
