pub mod Values
pub mod Lent
pub mod Memory
pub mod Formulas
pub mod Actions
pub mod Targets
