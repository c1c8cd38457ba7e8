pub mod Fingerprints
pub mod Parts
mod Identifiers
