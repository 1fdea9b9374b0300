pub mod Faults
pub mod Panels
pub mod Calls
pub mod Memories
pub mod Laws
