pub mod Plain
pub mod Classes
pub mod Unaddressed
pub mod Shares
pub mod Reached
pub mod Remembered
