mod Leaves
pub mod Done
