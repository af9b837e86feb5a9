pub mod Text
pub mod Number
pub mod Line
pub mod Calls
pub mod Steps
