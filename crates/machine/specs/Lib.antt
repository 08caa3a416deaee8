-- The definitions of the crate `machine`, a file each.
pub mod Version
pub mod Limits
pub mod State
pub mod Effect
pub mod Turn
pub mod Post
pub mod View
pub mod Valid
pub mod Machine
pub mod Inner
