pub mod Journal
pub mod Records
