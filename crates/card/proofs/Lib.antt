mod Drawn
mod Written
