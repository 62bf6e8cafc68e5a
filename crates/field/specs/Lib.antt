pub mod Fields
pub mod Refusals
