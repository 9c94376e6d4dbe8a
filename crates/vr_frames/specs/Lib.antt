pub mod Views
pub mod Rule
pub mod Plays
pub mod Frames
pub mod Keeper
pub mod Search
pub mod Lends
