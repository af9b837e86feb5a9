pub mod Once
pub mod Footprint
