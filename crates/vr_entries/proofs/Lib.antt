pub mod CallerLemmas
pub mod Making
pub mod Passing
pub mod Setting
pub mod Walking
