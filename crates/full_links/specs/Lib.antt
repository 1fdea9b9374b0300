pub mod FullFormats
