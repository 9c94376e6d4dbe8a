pub mod Event
pub mod Start
