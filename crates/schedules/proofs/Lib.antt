pub mod Each
pub mod Rises
pub mod Count
pub mod Meaning
pub mod Numbers
pub mod Sessions
