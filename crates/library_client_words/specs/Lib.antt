pub mod ClientWords
pub mod Inverse
pub mod PoolWords
