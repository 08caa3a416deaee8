-- The definitions of the crate `table`, a file each.
pub mod Table
pub mod Change
pub mod Words
