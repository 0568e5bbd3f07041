pub mod Fold
pub mod Answer
pub mod Meaning
pub mod Rowwise
pub mod Keys
