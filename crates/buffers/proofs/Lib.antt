pub mod Kept
pub mod Printed
