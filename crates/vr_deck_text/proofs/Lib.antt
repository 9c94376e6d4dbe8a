mod Literals
mod Running
