pub mod Pieces
pub mod Numbers
pub mod Rows
pub mod Reading
pub mod Words
