-- The definitions of the crate `image`, a file each.
pub mod Format
pub mod Record
pub mod Image
pub mod Refusal
pub mod Part
pub mod Inner
pub mod Examples
