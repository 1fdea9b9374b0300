pub mod Colouring
pub mod Meeting
pub mod Windows
pub mod Places
