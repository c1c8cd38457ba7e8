pub mod Placed
pub mod Both
