pub mod Sames
pub mod Alike
pub mod Keeps
pub mod Pictures
