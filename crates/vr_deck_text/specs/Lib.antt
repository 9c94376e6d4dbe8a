pub mod Words
pub mod Values
pub mod Tables
pub mod Rows
pub mod Operands
pub mod Deck
