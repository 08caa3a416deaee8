-- The laws of the crate `planes`, a file each.
pub mod Words
pub mod Tests
pub mod Sets
pub mod Labels
pub mod Gathered
