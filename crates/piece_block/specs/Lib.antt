pub mod Layout
pub mod Reading
pub mod Scan
pub mod Verdicts
