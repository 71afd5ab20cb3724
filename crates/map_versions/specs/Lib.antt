pub mod Versions
pub mod Laws
