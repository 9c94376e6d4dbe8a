mod Chosen
mod Filling
mod Found
mod Still
mod Went
