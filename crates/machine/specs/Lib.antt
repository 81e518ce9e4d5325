pub mod Cycle
pub mod Kept
pub mod Links
pub mod Lending
pub mod Lengths
pub mod Reports
pub mod View
