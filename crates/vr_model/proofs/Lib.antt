pub mod Pointwise
pub mod Tests
