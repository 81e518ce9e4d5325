pub mod Verdict
pub mod Model
pub mod Chains
pub mod Facts
pub mod Reaches
