pub mod Filling
pub mod Firsts
