pub mod Climbing
pub mod Bridge
pub mod RowLaws
