pub mod PutBack
pub mod Records
pub mod Found
pub mod Lengths
pub mod Ascending
pub mod Others
pub mod Order
pub mod Searched
