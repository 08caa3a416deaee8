-- The definitions of the crate `search`, a file each.
pub mod Look
pub mod Planewise
pub mod Claims
