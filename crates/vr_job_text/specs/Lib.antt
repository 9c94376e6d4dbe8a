pub mod Text
pub mod Card
pub mod Fault
pub mod Decks
pub mod Layout
pub mod Utilities
pub mod Job
pub mod Numbers
