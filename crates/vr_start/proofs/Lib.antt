pub mod CallerLemmas
mod Sizes
pub mod FirstHead
