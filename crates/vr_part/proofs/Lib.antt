pub mod Attaching
pub mod Touching
pub mod Reading
pub mod FirstArea
pub mod FirstRoster
pub mod Started
