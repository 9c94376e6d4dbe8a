pub mod Answer
pub mod Conflict
pub mod Filed
pub mod Listed
pub mod Locked
pub mod Maps
pub mod Plan
pub mod Sound
