pub mod Puts
pub mod Adds
pub mod Rows
pub mod LineLaws
pub mod Lengths
