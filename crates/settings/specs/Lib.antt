pub mod Settings
pub mod Lawful
