pub mod Digests
pub mod Identifiers
pub mod Repeats
