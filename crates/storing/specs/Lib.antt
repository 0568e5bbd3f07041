pub mod Gather
pub mod Strips
pub mod Answer
pub mod Meaning
pub mod File
