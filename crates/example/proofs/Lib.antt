pub mod Repeats
pub mod Worked
pub mod Moved
pub mod Senders
pub mod Refused
