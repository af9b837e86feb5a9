pub mod Ring
pub mod Checks
pub mod Good
pub mod Verdict
pub mod Reach
