pub mod Moving
pub mod Probing
pub mod Terms
pub mod Walking
