pub mod Finds
pub mod Unique
