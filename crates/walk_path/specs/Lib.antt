pub mod Chosen
pub mod Refusal
