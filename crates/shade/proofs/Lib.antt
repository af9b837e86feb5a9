pub mod Found
pub mod Unique
pub mod Example
