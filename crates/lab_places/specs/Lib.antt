pub mod Fresh
pub mod Poke
pub mod Places
pub mod Kept
