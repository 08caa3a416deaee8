-- The definitions of the crate `word`, a file each.
pub mod Word
pub mod Inner
