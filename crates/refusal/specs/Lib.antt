-- The definitions of the crate `refusal`, a file each.
pub mod Refusal
