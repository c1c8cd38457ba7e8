pub mod Lists
pub mod Demand
pub mod Premises
