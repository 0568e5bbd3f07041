pub mod Turns
pub mod Runs
pub mod Lists
pub mod Input
