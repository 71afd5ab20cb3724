pub mod AuditorLaws
pub mod BatchesLaws
