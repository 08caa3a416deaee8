-- The definitions of the crate `sheet`, a file each.
pub mod Sheet
pub mod Inner
pub mod Claims
