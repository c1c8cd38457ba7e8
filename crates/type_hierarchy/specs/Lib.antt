pub mod Near
pub mod Nearness
pub mod Sets
pub mod AncestorSets
pub mod KeyOwners
