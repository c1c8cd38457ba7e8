pub mod Counted
pub mod Places
pub mod Limits
pub mod Sized
pub mod Tables
pub mod Read
