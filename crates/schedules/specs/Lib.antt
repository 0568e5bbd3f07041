pub mod Schedules
pub mod Meaning
pub mod Numbers
