-- The laws of the crate `monitor`, a file each.
pub mod Calls
pub mod Posts
pub mod CallList
pub mod Secrecy
pub mod Desk
pub mod Claims
pub mod Examples
pub mod Keeps
pub mod Promises
