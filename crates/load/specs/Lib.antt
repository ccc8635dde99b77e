pub mod Bench
pub mod Cause
pub mod Options
pub mod Output
pub mod Text
