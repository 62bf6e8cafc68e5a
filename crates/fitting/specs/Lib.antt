pub mod Fitting
pub mod Fit
