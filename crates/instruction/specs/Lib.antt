-- The definitions of the crate `instruction`, a file each.
pub mod Table
pub mod Program
pub mod Inner
