pub mod Mets
