pub mod Footprint
