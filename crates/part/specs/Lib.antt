pub mod Options
pub mod Stage
pub mod Text
