pub mod Worked
pub mod Repeats
pub mod Moved
pub mod Senders
