pub mod Keys
pub mod Constraints
