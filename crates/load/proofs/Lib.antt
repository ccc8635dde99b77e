pub mod Blanks
pub mod Traces
pub mod Loads
