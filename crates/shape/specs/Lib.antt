pub mod Rank
pub mod Shape
pub mod View
