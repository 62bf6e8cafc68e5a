pub mod Blocks
pub mod Rule
pub mod Loop
