pub mod Answering
pub mod Crossings
pub mod Cuts
pub mod Linear
pub mod Samples
pub mod Scripts
pub mod Sectors
pub mod Worked
