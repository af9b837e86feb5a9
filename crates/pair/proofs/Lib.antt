pub mod Words
pub mod Bits
pub mod Laid
pub mod Unique
pub mod Caller
