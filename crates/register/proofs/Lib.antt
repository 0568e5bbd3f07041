mod FreshLaws
pub mod CallLaws
pub mod Passes
