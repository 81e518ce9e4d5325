pub mod First
pub mod Sum
