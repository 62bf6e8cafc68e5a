pub mod Cells
pub mod Numbers
