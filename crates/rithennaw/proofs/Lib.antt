-- The laws of the crate `rithennaw`, a file each.
pub mod Promises
