pub mod Sizes
pub mod Seen
pub mod Tells
pub mod Place
