pub mod Back
pub mod Listed
pub mod Pairs
pub mod Arise
pub mod Read
pub mod Caller
pub mod Unique
