pub mod Sessions
pub mod TwoChoices
