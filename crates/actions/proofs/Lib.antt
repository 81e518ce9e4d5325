pub mod Changing
pub mod Evaluating
pub mod Leaving
pub mod Slots
