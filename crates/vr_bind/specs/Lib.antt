pub mod Named
pub mod Places
pub mod Bound
pub mod Found
pub mod Placed
