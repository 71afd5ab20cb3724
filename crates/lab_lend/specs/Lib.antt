pub mod Client
pub mod Node
