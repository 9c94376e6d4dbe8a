pub mod Entries
pub mod Decks
pub mod Views
pub mod Rule
pub mod Plays
pub mod Seats
pub mod Ledger
pub mod Turn
