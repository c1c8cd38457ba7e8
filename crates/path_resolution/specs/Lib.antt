pub mod Resolution
pub mod Coded
pub mod Written
