pub mod Naturals
pub mod Chains
pub mod Splits
pub mod Words
pub mod Turns
