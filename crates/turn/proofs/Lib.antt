-- The laws of the crate `turn`, a file each.
pub mod Steps
