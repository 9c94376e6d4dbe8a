pub mod TheParts
