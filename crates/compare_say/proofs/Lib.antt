mod Lines
pub mod Laws
