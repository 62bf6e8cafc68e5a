pub mod Coherent
pub mod Registers
pub mod Releases
pub mod Trips
pub mod Memory
