pub mod Startable
pub mod Cause
pub mod FirstHead
