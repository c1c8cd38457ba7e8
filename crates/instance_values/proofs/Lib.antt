pub mod Places
pub mod Slotted
pub mod States
pub mod OfTables
