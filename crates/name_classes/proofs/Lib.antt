pub mod Before
pub mod Sorting
pub mod Counting
pub mod Placed
pub mod Filling
pub mod Ranks
pub mod Options
