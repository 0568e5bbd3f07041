pub mod Cell
pub mod Table
pub mod State
pub mod InRange
pub mod Steps
pub mod Rules
pub mod Reference
pub mod Whole
