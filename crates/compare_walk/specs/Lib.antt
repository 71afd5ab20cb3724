pub mod Differences
pub mod DifferencesLaws
pub mod Dumps
pub mod DumpsLaws
