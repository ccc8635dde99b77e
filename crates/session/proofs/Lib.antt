pub mod Carrying
pub mod Counts
pub mod Lossless
pub mod Taking
