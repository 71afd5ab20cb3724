pub mod Computed
pub mod Follow
pub mod Instance
pub mod Sound
