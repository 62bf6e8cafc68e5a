pub mod Chars
pub mod Models
