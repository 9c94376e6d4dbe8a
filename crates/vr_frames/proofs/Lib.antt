pub mod Counts
pub mod CallerLemmas
pub mod Steps
pub mod Claims
pub mod HomeCounts
pub mod NewPool
pub mod Sending
