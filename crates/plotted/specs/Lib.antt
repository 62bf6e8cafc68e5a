pub mod Printed
pub mod CellFigures
pub mod OwnShare
pub mod Worked
