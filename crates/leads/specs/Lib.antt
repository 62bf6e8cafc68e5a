pub mod Gauges
pub mod Refusal
pub mod Longest
pub mod Advice
pub mod Leads
pub mod Worked
