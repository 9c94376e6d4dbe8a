pub mod Input
pub mod Names
pub mod Reading
pub mod Ends
pub mod Asked
pub mod Command
pub mod Words
