pub mod Limits
pub mod Earlier
pub mod Read
