pub mod Numbers
pub mod Bytes
pub mod Ink
pub mod Pages
