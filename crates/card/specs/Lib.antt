pub mod Cards
pub mod Pages
