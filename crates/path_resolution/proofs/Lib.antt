pub mod Laws
pub mod Last
pub mod Turn
pub mod Reading
pub mod Runs
pub mod Writing
