pub mod Comparing
pub mod LastName
pub mod PartnerPaths
pub mod BindingPaths
pub mod Split
pub mod OfTables
