pub mod Field
pub mod Bytes
