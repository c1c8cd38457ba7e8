pub mod WideLaws
pub mod Meanings
