-- The laws of the crate `loader`, a file each.
pub mod Loading
