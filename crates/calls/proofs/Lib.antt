-- The laws of the crate `calls`, a file each.
pub mod Pipeline
pub mod Promises
