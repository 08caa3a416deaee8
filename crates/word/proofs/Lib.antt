-- The laws of the crate `word`, in one file.
pub mod Words
