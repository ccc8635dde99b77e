pub mod Counting
pub mod Joining
pub mod Laws
pub mod Session
pub mod SessionLaws
