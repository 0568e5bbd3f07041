pub mod Lag
pub mod Sheet
pub mod Meaning
