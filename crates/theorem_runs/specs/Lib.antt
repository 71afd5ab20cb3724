pub mod Answers
pub mod Begins
pub mod Chosen
pub mod Jobs
pub mod Removals
pub mod Words
