pub mod Difference
pub mod Order
pub mod Flag
pub mod Polynomial
pub mod Range
pub mod Fraction
pub mod Front
pub mod Decide
