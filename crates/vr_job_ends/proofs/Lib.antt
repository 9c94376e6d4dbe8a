pub mod Readings
mod Commands
mod Lists
mod Numerals
pub mod CallerLemmas
