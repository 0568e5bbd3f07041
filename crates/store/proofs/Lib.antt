pub mod Places
pub mod Walks
pub mod Starts
pub mod Agreed
pub mod Nexts
pub mod Said
