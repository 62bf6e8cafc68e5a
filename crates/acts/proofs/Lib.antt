pub mod Idle
pub mod Clearing
