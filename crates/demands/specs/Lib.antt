pub mod Demands
pub mod Refusals
pub mod Word
