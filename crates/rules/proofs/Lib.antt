pub mod Ranking
pub mod Agreeing
