pub mod Division
pub mod Closest
pub mod Rounding
