-- The definitions of the crate `snapshot`, a file each.
pub mod Writing
