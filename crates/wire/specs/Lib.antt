-- The definitions of the crate `wire`, a file each.
pub mod Lists
pub mod Numbers
pub mod Output
pub mod Items
pub mod Fields
pub mod Slices
pub mod Inner
