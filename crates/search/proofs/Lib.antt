-- The laws of the crate `search`, a file each.
pub mod Read
pub mod Counting
pub mod Claims
