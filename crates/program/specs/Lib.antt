pub mod Narrow
pub mod Judging
pub mod Measures
pub mod Loading
pub mod Elements
