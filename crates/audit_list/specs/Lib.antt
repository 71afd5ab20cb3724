pub mod Batches
pub mod Laws
pub mod Start
