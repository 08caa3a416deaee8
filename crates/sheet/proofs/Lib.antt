-- The laws of the crate `sheet`, a file each.
pub mod Shown
pub mod Sheet
pub mod Printed
pub mod Claims
pub mod Examples
pub mod Promises
