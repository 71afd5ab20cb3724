pub mod ClientInverse
mod Fills
pub mod PoolInverse
