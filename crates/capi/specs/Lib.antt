pub mod Load
pub mod Replay
