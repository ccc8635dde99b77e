pub mod Suiting
pub mod Faults
pub mod Judging
