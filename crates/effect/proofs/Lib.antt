-- The laws of the crate `effect`, a file each.
pub mod Effects
