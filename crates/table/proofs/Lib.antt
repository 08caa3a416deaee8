-- The laws of the crate `table`, a file each.
pub mod Window
pub mod Message
pub mod Task
pub mod Planes
pub mod Ring
pub mod Change
pub mod Slots
pub mod Mailbox
