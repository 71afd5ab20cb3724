pub mod Forgotten
pub mod Premises
