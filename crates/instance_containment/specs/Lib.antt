pub mod Graph
pub mod Rows
pub mod Integrals
