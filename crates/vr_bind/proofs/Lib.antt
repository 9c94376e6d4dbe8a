mod Basing
mod Placing
mod Volumes
