pub mod FrameLaws
pub mod Sweeping
