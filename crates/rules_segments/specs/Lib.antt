pub mod Cover
pub mod Lowest
pub mod Kept
