pub mod Putting
pub mod Writing
pub mod Unrolls
