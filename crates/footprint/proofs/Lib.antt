pub mod Steps
pub mod Shape
pub mod Back
pub mod Outline
pub mod Table
pub mod Pairs
pub mod Finds
pub mod Unique
