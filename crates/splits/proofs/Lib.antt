pub mod Runs
pub mod Splits
