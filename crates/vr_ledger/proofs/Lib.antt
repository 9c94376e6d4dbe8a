pub mod CallerLemmas
pub mod Counts
pub mod OwnEntries
pub mod Sending
pub mod Steps
