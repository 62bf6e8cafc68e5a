pub mod Registers
pub mod Keeps
pub mod Coherent
pub mod Trips
pub mod Memory
