pub mod Calls
pub mod Inverse
pub mod NodeWords
pub mod Same
