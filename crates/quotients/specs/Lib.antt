pub mod Quotient
pub mod Nearest
