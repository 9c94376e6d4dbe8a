pub mod Opens
pub mod Values
pub mod Orders
pub mod Verbs
pub mod Acts
pub mod Run
pub mod Stops
pub mod Commands
