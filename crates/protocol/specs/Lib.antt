pub mod Sent
pub mod Verdicts
pub mod Bench
pub mod SentBack
pub mod Status
pub mod Entered
