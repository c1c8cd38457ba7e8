pub mod Tables
pub mod Clauses
