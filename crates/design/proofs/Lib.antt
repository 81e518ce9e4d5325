pub mod Mapped
pub mod Kept
pub mod Sums
pub mod Reaching
