pub mod Runs
pub mod Partners
pub mod Bindings
