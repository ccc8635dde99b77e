pub mod Lines
pub mod Meanings
pub mod Numbers
pub mod Records
