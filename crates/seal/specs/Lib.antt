pub mod Parts
pub mod Scan
pub mod Seal
