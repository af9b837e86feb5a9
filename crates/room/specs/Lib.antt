pub mod Codes
pub mod Image
pub mod Step
pub mod Verdicts
