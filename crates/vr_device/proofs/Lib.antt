pub mod Answering
pub mod Choosing
pub mod Events
pub mod Images
pub mod Keeping
pub mod Selecting
pub mod WriteAhead
