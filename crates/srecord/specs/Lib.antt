pub mod Hex
pub mod Line
pub mod Text
pub mod Reading
pub mod Records
pub mod Bytes
pub mod File
pub mod Examples
