pub mod Alike
pub mod Back
pub mod Exact
pub mod Instance
pub mod Lab
pub mod Own
pub mod Turns
