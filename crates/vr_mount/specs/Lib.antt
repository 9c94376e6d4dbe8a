pub mod Faults
pub mod Header
pub mod Numbers
pub mod Records
pub mod Marks
pub mod Areas
pub mod Listing
pub mod Touched
