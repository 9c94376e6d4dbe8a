pub mod CallerLemmas
pub mod Items
pub mod Leading
pub mod Led
pub mod Sorting
