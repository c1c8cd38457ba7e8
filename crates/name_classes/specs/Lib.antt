pub mod Order
pub mod Classes
