pub mod Number
pub mod Bits
