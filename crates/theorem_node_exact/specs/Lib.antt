pub mod Fields
pub mod Numbers
pub mod Questions
pub mod Reached
pub mod When
pub mod Words
