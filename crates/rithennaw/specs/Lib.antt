-- The definitions of the crate `rithennaw`, a file each.
pub mod Told
