pub mod Mendable
