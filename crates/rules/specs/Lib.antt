pub mod Reach
pub mod Ring
pub mod Refusal
pub mod Good
pub mod Place
pub mod Contact
pub mod Verdict
