pub mod Steps
pub mod LineEnds
pub mod Fairness
pub mod Runs
