pub mod Put
pub mod Digits
pub mod Unique
