pub mod Texts
pub mod Lines
pub mod Record
pub mod Printed
pub mod Sources
pub mod Outcomes
pub mod Steps
