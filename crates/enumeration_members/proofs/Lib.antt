pub mod Earlier
pub mod Halving
pub mod Keys
pub mod Clauses
pub mod Signs
pub mod Verdicts
pub mod Whole
pub mod Words
