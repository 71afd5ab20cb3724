pub mod Delivery
pub mod Heard
pub mod Post
