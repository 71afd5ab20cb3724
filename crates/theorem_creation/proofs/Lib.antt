pub mod Creation
pub mod Past
pub mod Worked
