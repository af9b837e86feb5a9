pub mod Macros
pub mod Coded
pub mod Told
