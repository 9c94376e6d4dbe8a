pub mod CallerLemmas
pub mod Parts
pub mod Rules
pub mod Shapes
