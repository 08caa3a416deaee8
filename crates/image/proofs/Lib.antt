-- The laws of the crate `image`, a file each.
pub mod Refusal
pub mod Offsets
pub mod Records
pub mod Slots
pub mod Front
pub mod Walk
pub mod Image
pub mod Examples
