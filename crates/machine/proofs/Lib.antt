-- The laws of the crate `machine`, a file each.
pub mod Rules
pub mod Mailbox
pub mod Search
pub mod Effect
pub mod Spare
pub mod View
pub mod Valid
pub mod Turn
pub mod Kept
pub mod Clearance
pub mod Post
pub mod Machine
pub mod Traps
pub mod Bounds
