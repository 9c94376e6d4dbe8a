pub mod Endings
pub mod Writes
