pub mod Asks
pub mod Words
pub mod Asked
pub mod Told
