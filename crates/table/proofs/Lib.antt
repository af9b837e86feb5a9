pub mod Judge
pub mod Table
pub mod Corners
