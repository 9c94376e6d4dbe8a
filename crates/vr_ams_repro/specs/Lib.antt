pub mod Replies
pub mod Progress
pub mod Requests
pub mod Fed
pub mod Pieces
pub mod Outcomes
pub mod Steps
