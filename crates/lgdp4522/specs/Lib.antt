pub mod Wired
pub mod Laws
