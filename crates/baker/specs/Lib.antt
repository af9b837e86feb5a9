pub mod Listed
pub mod Export
pub mod Calls
