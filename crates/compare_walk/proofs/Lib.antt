pub mod DifferencesLaws
pub mod DumpsLaws
pub mod Places
