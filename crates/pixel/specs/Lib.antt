pub mod Colours
pub mod Rects
pub mod Modes
pub mod Addresses
pub mod Laws
