pub mod Step
pub mod Contract
pub mod Few
