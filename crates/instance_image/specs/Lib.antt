pub mod Tables
pub mod Limits
pub mod Sized
pub mod Read
