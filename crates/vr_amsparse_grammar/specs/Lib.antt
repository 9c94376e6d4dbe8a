pub mod Cause
pub mod Rows
pub mod Tables
pub mod Sections
pub mod Words
pub mod Judging
pub mod Moves
pub mod Reading
