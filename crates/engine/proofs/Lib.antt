pub mod Spent
pub mod Answers
pub mod Rung
pub mod Stands
pub mod Fields
pub mod Cycles
