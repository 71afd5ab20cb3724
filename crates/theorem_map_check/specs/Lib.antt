pub mod Checks
pub mod Node
pub mod StillEmpty
pub mod Watched
