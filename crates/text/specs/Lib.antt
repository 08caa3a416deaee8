-- The definitions of the crate `text`, a file each.
pub mod Text
pub mod Inner
