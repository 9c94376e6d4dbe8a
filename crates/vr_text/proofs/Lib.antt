pub mod CallerLemmas
pub mod Digits
pub mod Enclosed
pub mod Numbers
pub mod Quotes
pub mod Names
