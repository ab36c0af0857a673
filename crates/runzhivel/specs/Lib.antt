pub mod Places
pub mod Respelling
pub mod Excerpts
