pub mod Pieces
pub mod Format
pub mod Texts
pub mod Reading
