-- The laws of the crate `instruction`, a file each.
pub mod Encode
pub mod Table
pub mod Program
pub mod Arms
