pub mod Alike
pub mod Exact
pub mod Lab
pub mod Logs
pub mod Own
