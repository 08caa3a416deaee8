-- The definitions of the crate `listing`, a file each.
pub mod Listing
pub mod Inner
pub mod Claims
pub mod Examples
