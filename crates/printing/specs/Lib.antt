pub mod Verdict
pub mod Sheet
pub mod Print
pub mod Drill
pub mod Sizing
