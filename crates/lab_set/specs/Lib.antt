pub mod Arranging
pub mod Truing
