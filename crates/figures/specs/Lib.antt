pub mod Sizing
pub mod Counts
pub mod Meaning
