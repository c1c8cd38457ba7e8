pub mod Steps
pub mod Tables
pub mod Placed
pub mod Coded
