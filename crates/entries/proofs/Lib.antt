pub mod Unaltered
