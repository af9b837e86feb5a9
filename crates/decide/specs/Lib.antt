pub mod Side
pub mod Crossing
pub mod Span
pub mod Touch
