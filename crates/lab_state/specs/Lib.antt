pub mod Lent
pub mod Bench
