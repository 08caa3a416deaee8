-- The definitions of the crate `monitor`, a file each.
pub mod Calls
pub mod CallList
pub mod Claims
pub mod Examples
