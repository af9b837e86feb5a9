pub mod Question
pub mod Slots
pub mod Kept
pub mod Lay
pub mod Look
pub mod Asking
pub mod Conditions
pub mod Unique
