pub mod CallerLemmas
pub mod Names
pub mod Runs
