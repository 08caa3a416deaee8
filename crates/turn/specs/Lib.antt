-- The definitions of the crate `turn`, a file each.
pub mod Answer
