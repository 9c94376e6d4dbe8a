pub mod Codes
pub mod Running
pub mod ListedAll
pub mod Counting
