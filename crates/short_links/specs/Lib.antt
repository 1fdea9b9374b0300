pub mod ShortFormats
