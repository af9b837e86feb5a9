pub mod Coding
pub mod Images
pub mod InOrder
pub mod RoundTrip
pub mod Steps
pub mod Unique
