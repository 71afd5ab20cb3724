pub mod Ask
pub mod Lending
