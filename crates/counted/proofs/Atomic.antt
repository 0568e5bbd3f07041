-- Why every log has an order: the book is the machine whose tickets are numbers, with the numbers dropped.
pub mod Sim
pub mod Writes
pub mod Reads
pub mod Runs
