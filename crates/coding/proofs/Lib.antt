pub mod Codes
pub mod Readable
pub mod Arise
