pub mod Cutting
pub mod Mapping
pub mod Rows
pub mod Stages
pub mod Steps
