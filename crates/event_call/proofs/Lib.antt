pub mod Left
pub mod NoPart
