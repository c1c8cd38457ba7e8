pub mod Along
pub mod Tests
