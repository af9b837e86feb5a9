pub mod Entry
pub mod Ask
pub mod Steps
