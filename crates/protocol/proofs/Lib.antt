pub mod Bench
pub mod Verdicts
pub mod SentBack
pub mod Room
pub mod Status
pub mod Entered
