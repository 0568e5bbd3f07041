-- The laws of words, that callers use in place of the definitions' texts.
pub mod Choice
pub mod Same
pub mod Update
pub mod Bits
pub mod Stamp
pub mod Cell
pub mod Row
pub mod Index
pub mod Counting
