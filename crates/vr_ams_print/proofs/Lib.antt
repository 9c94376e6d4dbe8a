mod Answered
mod EachByte
mod Numbered
mod Selected
pub mod Sources
mod Worked
mod WorkedPrints
