pub mod Held
pub mod Listing
pub mod Places
pub mod Details
pub mod Faults
pub mod Outcomes
