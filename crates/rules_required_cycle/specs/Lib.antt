pub mod Steps
pub mod Closing
