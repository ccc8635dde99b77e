pub mod Target
pub mod Verdict
pub mod Law
