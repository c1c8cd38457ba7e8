pub mod Gather
pub mod Steps
pub mod Closing
