pub mod Causes
pub mod Names
pub mod Options
pub mod Printed
pub mod Words
