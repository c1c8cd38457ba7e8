pub mod Along
pub mod Opened
