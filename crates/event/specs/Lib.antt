pub mod OfClient
pub mod OfNode
