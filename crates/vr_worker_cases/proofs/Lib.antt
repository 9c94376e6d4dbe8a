mod Entering
mod Beginning
