pub mod Moves
pub mod Named
