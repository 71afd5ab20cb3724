pub mod Descriptors
pub mod Reading
pub mod Volume
pub mod Writing
