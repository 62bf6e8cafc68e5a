pub mod Parameters
pub mod Told
