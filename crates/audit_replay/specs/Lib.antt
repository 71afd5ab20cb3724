pub mod Audit
pub mod Replay
