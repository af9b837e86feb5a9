pub mod Steps
pub mod Moving
pub mod Touch
pub mod Tells
pub mod Known
pub mod Scan
pub mod Unique
