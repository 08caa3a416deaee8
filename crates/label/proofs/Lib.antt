-- The laws of the crate `label`, a file each.
pub mod Bits
pub mod Order
pub mod Masks
