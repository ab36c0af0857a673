pub mod Fits
pub mod Joint
pub mod Raised
