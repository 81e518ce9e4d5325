pub mod Faults
pub mod Turns
