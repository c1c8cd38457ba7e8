pub mod Orders
pub mod CodedPaths
pub mod Split
