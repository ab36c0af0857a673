pub mod Ways
pub mod Loads
pub mod Walks
pub mod Numbers
