pub mod Formatted
pub mod Fit
pub mod InOrder
pub mod Planned
pub mod FormatCause
