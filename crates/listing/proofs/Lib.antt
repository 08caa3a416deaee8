-- The laws of the crate `listing`, a file each.
pub mod Lines
pub mod Keeping
pub mod Program
pub mod Chunks
pub mod Lengths
pub mod Texts
pub mod Assembled
pub mod There
pub mod Claims
pub mod Examples
pub mod Promises
