pub mod OneKept
pub mod TheLayout
