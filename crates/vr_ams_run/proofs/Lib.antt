pub mod CallerLemmas
mod Counting
mod Listings
mod Runs
