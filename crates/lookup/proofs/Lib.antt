pub mod Chain
pub mod Looking
pub mod Found
