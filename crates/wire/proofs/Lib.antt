-- The laws of the crate `wire`, a file each.
pub mod Lists
pub mod Numbers
pub mod Items
pub mod Fields
pub mod Output
pub mod Tabulate
pub mod Equal
