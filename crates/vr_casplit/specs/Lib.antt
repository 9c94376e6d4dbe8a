pub mod Moving
pub mod Growing
pub mod Splits
