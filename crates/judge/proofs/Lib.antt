-- The laws of the crate `judge`, a file each.
pub mod Mail
pub mod Spares
