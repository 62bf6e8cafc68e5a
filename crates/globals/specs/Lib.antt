pub mod Globals
