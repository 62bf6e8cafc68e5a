pub mod Numbers
pub mod Knob
