pub mod Commuting
pub mod Demand1
pub mod Demand2
pub mod Said
pub mod Summaries
pub mod Tests
