pub mod Covering
pub mod Least
pub mod Resolved
pub mod Keeping
pub mod Resolving
