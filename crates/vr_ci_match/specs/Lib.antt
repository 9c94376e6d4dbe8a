pub mod Rdf
pub mod Laid
pub mod Compare
pub mod Fault
pub mod Layout
pub mod Tally
pub mod Matched
