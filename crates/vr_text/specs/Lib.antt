pub mod Lines
pub mod LinesHeld
pub mod Literal
pub mod LiteralParts
pub mod Number
pub mod Words
