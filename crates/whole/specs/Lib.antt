pub mod Fraction
pub mod Front
pub mod Decide
