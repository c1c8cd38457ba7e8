pub mod Wide
pub mod Nearest
