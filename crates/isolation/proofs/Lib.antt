pub mod Isolation
pub mod Existence
