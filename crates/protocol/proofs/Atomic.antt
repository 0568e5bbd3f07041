-- Why every log has an order: the book is the numbered machine with its numbers dropped.
pub mod Cells
pub mod Barred
pub mod Sim
pub mod Writes
pub mod Turns
pub mod Frames
pub mod Attempts
pub mod Third
pub mod Results
pub mod Stores
pub mod Reads
pub mod Taken
pub mod Runs
