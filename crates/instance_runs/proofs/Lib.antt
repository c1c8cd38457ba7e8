pub mod Fills
pub mod Counts
