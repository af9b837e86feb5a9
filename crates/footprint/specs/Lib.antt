pub mod Point
pub mod Steps
pub mod Table
pub mod Shape
