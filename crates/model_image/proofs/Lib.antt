pub mod Chain
pub mod Counting
pub mod PlaceLaws
pub mod Parts
